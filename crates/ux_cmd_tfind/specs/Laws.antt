-- The plan of `tfind` keeps the laws: a grammar can be searched in automata, or is refused for one
-- cause, and a file of automata says its sentences, or is refused for one.
use Rattle.std.proofs.Common.{◌≡◌, ◌≢◌, ℕ, false, List, sym, ap, ◌∙◌, subst}
use Rattle.ux_alphabet.specs.Letters.{Letters}
use Rattle.ux_grammars.specs.Graphs.{grammar_plan}
use Rattle.ux_grammars.specs.Sources.{Source}
use Rattle.ux_grammars.proofs.GrammarLaws.{grammar_laws}
use Rattle.ux_grammars.proofs.SameStates.{states_same}
use Rattle.ux_plan.specs.Laws.{IsSound, IsSoundTest, Laws}
use Rattle.ux_plan.specs.Plans.{gives, reads, refusing, said_as, tests}
use Rattle.ux_plan.proofs.PlanLaws.{decoded_sound, laws_then, refusing_sound, said_sound}
use Rattle.ux_reading_match.proofs.UsableLaws.{not_refused as usable_or, refused_once as one_error, refuses_alike, usable_alike}
use Rattle.ux_reading_match.specs.declared.error.TfstError.{TfstError}
use Rattle.ux_reading_match.specs.declared.error.TfstError.TheVariants.{BadItem, NoMemory}
use Rattle.ux_reasons.specs.declared.reason.Reason.{Reason}
use Rattle.ux_reasons.specs.declared.reason.Reason.TheVariants as reasons
use Rattle.ux_sentence.specs.Files as file
use Rattle.ux_sentence.proofs.Laws.{not_refused, refused_once, sentences_are_unique}
use Rattle.ux_texts.proofs.TextLaws.{alphabet_sound}
use Rattle.ux_cmd_tfind.specs.Reading.{sentences_format, tfind_plan}
use Rattle.ux_cmd_tfind.specs.Refusing.{CanSearch, NamesGraph, RefusesGrammar}

pub sentences_sound : IsSound sentences_format
sentences_sound =
    decoded_sound reasons.Decode (said_as reasons.Sentence file.AreSentences file.Refuses)
    (said_sound reasons.Sentence file.AreSentences file.Refuses not_refused sentences_are_unique
    refused_once)

-- an error that names a file isn't want of memory
not_memory : (word file : List ℕ) (error : TfstError) → NamesGraph word error file →
    error ≢ NoMemory
not_memory word file error names is =
    let none : NamesGraph word NoMemory file =
    subst (λ (e : TfstError). NamesGraph word e file) is names in
    none

-- it names one
one_file : (word file other : List ℕ) (error : TfstError) → NamesGraph word error file →
    NamesGraph word error other → file ≡ other
one_file word file other (BadItem name node) one also = one ∙ sym also
one_file word file other NoMemory one also = absurd one

module _ (word : List ℕ) (letters : Letters) (source : Source) where
  -- a grammar that can be searched isn't refused
  excluded : (file : List ℕ) (reason : Reason) → CanSearch letters source →
      RefusesGrammar word letters source file reason → ⊥
  excluded file reason can refused =
      let tells = refused.refuses in
      let same = states_same letters source can.net refused.net can.states refused.states in
      usable_or refused.net tells.error (not_memory word file tells.error tells.refuses.1)
      (usable_alike can.net refused.net same can.usable) tells.refuses.0

  -- one that can't is refused for one cause, which names one file
  one_cause : (file other : List ℕ) (reason also : Reason) →
      RefusesGrammar word letters source file reason →
      RefusesGrammar word letters source other also → (file ≡ other) × (reason ≡ also)
  one_cause file other reason also a b =
      let same = states_same letters source a.net b.net a.states b.states in
      let one = a.refuses in
      let two = b.refuses in
      let errors = one_error b.net one.error two.error
      (not_memory word file one.error one.refuses.1)
      (not_memory word other two.error two.refuses.1)
      (refuses_alike a.net b.net same one.error one.refuses.0) two.refuses.0 in (
        one_file word file other two.error
            (subst (λ (e : TfstError). NamesGraph word e file) errors one.refuses.1)
            two.refuses.1,
        one.is ∙ (ap reasons.Tfst errors ∙ sym two.is),
      )

  usable_test : IsSoundTest (CanSearch letters source)
      (refusing (RefusesGrammar word letters source))
  usable_test =
      refusing_sound (CanSearch letters source) (RefusesGrammar word letters source) excluded
      one_cause

pub tfind_laws : (graph tfst alphabet : List ℕ) → Laws (tfind_plan graph tfst alphabet)
tfind_laws graph tfst alphabet = (
  alphabet_sound false,
  λ letters. laws_then (λ source. tests (CanSearch letters source)
      (refusing (RefusesGrammar graph letters source)) (reads tfst sentences_format
      (λ sentences. gives (record { letters = letters; source = source; sentences = sentences }))))
      (λ source. (usable_test graph letters source, (sentences_sound, λ sentences. tt)))
      (grammar_plan graph letters) (grammar_laws graph letters),
)
