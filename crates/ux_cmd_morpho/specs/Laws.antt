-- The formats of the command's files and its tests are sound, so its plan keeps the laws.
use Rattle.std.proofs.Common.{◌≡◌, ◌≢◌, ◌∙◌, inl, inr, ℕ, false, List, ap, subst, sym}
use Rattle.std.specs.Prelude.{Some, slice_get}
use Rattle.std.proofs.lemmas.Bool.{cases_order}
use Rattle.std.proofs.lemmas.Option.{same_Some}
use Rattle.ux_alphabet.specs.Letters.{Letters}
use Rattle.ux_boxes.specs.Boxes.{Drawn}
use Rattle.ux_dictionaries.specs.Dictionaries.{dictionary_format}
use Rattle.ux_dictionaries.proofs.DictionaryLaws.{dictionaries_laws}
use Rattle.ux_grammars.specs.Graphs.{marked_plan}
use Rattle.ux_grammars.specs.Reading.{AreStatesOfBoxes}
use Rattle.ux_grammars.proofs.GrammarLaws.{marked_laws}
use Rattle.ux_grammars.proofs.SameStates.{boxes_alike}
use Rattle.ux_marks.specs.Marks.{Refuses}
use Rattle.ux_marks.specs.declared.error.MorphError.{MorphError}
use Rattle.ux_marks.specs.declared.error.MorphError.TheVariants.{BadMarks, BadOutput, NoMemory}
use Rattle.ux_marks.proofs.MarksLaws.{keeps_alike, keeps_not_refused, refused_alike, refused_once}
use Rattle.ux_plan.specs.Laws.{IsSoundTest, Laws}
use Rattle.ux_plan.specs.Plans.{each, gives, reads, refusing, tests, then}
use Rattle.ux_plan.proofs.PlanLaws.{laws_then, refusing_sound}
use Rattle.ux_reasons.specs.declared.reason.Reason.{Reason}
use Rattle.ux_reasons.specs.declared.reason.Reason.TheVariants.{Morph}
use Rattle.ux_texts.specs.Texts.{text_format}
use Rattle.ux_texts.proofs.TextLaws.{alphabet_sound, text_sound}
use Rattle.ux_tokens.specs.Tokens.{Token}
use Rattle.ux_cmd_morpho.specs.Answering.{IsFirstBad, IsWordAt, NoneIsBad, RefusesWords}
use Rattle.ux_cmd_morpho.specs.Reading.{Analysed, HasGoodMarks, HasLongWord, NamesMarks, RefusesMarks, StopsLong, files_plan, marks_plan, single_of, words_plan}
use Rattle.ux_cmd_morpho.specs.Testing.{IsBadWord, morpho_plan, test_plan}

-- an error that names a file isn't want of memory
not_memory : (word file : List ℕ) (error : MorphError) → NamesMarks word error file →
    error ≢ NoMemory
not_memory word file error names is =
    let none : NamesMarks word NoMemory file =
    subst (λ (e : MorphError). NamesMarks word e file) is names in
    none

-- it names one
one_file : (word file other : List ℕ) (error : MorphError) → NamesMarks word error file →
    NamesMarks word error other → file ≡ other
one_file word file other (BadMarks name node) one also = one ∙ sym also
one_file word file other (BadOutput token) one also = absurd one
one_file word file other NoMemory one also = absurd one

module _ (word : List ℕ) (letters : Letters) (graphs : List Drawn) where
  -- graphs whose marks are good aren't refused
  marks_excluded : (file : List ℕ) (reason : Reason) → HasGoodMarks letters graphs →
      RefusesMarks word letters graphs file reason → ⊥
  marks_excluded file reason good refused =
      let tells = refused.refuses in
      keeps_not_refused refused.net tells.error (not_memory word file tells.error tells.refuses.1)
      (keeps_alike good.net refused.net
      (boxes_alike letters graphs good.net refused.net good.states refused.states) good.keeps)
      tells.refuses.0

  -- others are refused for one cause, which names one file
  marks_cause : (file other : List ℕ) (reason also : Reason) →
      RefusesMarks word letters graphs file reason →
      RefusesMarks word letters graphs other also → (file ≡ other) × (reason ≡ also)
  marks_cause file other reason also a b =
      let one = a.refuses in
      let two = b.refuses in
      let refuses = refused_alike a.net b.net
      (boxes_alike letters graphs a.net b.net a.states b.states) one.error one.refuses.0 in
      let errors = refused_once b.net one.error two.error
      (not_memory word file one.error one.refuses.1)
      (not_memory word other two.error two.refuses.1) refuses two.refuses.0 in (
        one_file word file other two.error
            (subst (λ (e : MorphError). NamesMarks word e file) errors one.refuses.1)
            two.refuses.1,
        one.is ∙ (ap Morph errors ∙ sym two.is),
      )

  marks_test : IsSoundTest (HasGoodMarks letters graphs)
      (refusing (RefusesMarks word letters graphs))
  marks_test =
      refusing_sound (HasGoodMarks letters graphs) (RefusesMarks word letters graphs)
      marks_excluded marks_cause

marks_laws : (word : List ℕ) (letters : Letters) → Laws (marks_plan word letters)
marks_laws word letters =
    laws_then (λ graphs. tests (HasGoodMarks letters graphs)
    (refusing (RefusesMarks word letters graphs)) (gives graphs))
    (λ graphs. (marks_test word letters graphs, tt)) (marked_plan word letters)
    (marked_laws word letters)

words_laws : (text : List ℕ) (words letters : Letters) → Laws (words_plan text words letters)
words_laws text words letters = (
  text_sound words,
  λ tokens. (
    record {
      excluded = λ stop short stops. short stops.1;
      one_stop = λ stop other a b. a.0 ∙ sym b.0;
    },
    tt,
  ),
)

files_laws : (graph text alphabet : List ℕ) (names : List (List ℕ)) →
    Laws (files_plan graph text alphabet names)
files_laws graph text alphabet names = (
  alphabet_sound false,
  λ letters. laws_then (λ graphs. then (words_plan text letters (single_of letters)) (λ tokens.
      then (each dictionary_format names) (λ dics.
      gives (record { letters = letters; graphs = graphs; tokens = tokens; dics = dics }))))
      (λ graphs. laws_then (λ tokens. then (each dictionary_format names) (λ dics.
      gives (record { letters = letters; graphs = graphs; tokens = tokens; dics = dics })))
      (λ tokens. laws_then (λ dics.
      gives (record { letters = letters; graphs = graphs; tokens = tokens; dics = dics }))
      (λ dics. tt) (each dictionary_format names) (dictionaries_laws names))
      (words_plan text letters (single_of letters))
      (words_laws text letters (single_of letters)))
      (marks_plan graph (single_of letters)) (marks_laws graph (single_of letters)),
)

module _ (tokens : List Token) (IsBad : (word : List ℕ) → Type 0) where
  -- one place has one word
  one_word : (place : ℕ) (word other : List ℕ) → IsWordAt tokens place word →
      IsWordAt tokens place other → word ≡ other
  one_word place word other a b =
      let token = same_Some a.token b.token (sym a.at ∙ b.at) in
      sym a.is ∙ (ap (λ (t : Token). t.text) token ∙ b.is)

  -- one word is the first bad one
  one_first : (word other : List ℕ) → IsFirstBad tokens IsBad word →
      IsFirstBad tokens IsBad other → word ≡ other
  one_first word other a b = elim (cases_order a.place b.place) [
    | inl same ↦ one_word b.place word other
        (subst (λ (k : ℕ). IsWordAt tokens k word) same a.at) b.at
    | inr (inl low) ↦ absurd (b.before a.place word low a.at a.bad)
    | inr (inr low) ↦ absurd (a.before b.place other low b.at b.bad)
  ]

  words_cause : (graph file other : List ℕ) (reason also : Reason) →
      RefusesWords tokens IsBad graph file reason → RefusesWords tokens IsBad graph other also →
      (file ≡ other) × (reason ≡ also)
  words_cause graph file other reason also a b = (
    a.2 ∙ sym b.2,
    a.3 ∙ (ap (λ (w : List ℕ). Morph (BadOutput w)) (one_first a.0 b.0 a.1 b.1) ∙ sym b.3),
  )

  words_test : (graph : List ℕ) →
      IsSoundTest (NoneIsBad tokens IsBad) (refusing (RefusesWords tokens IsBad graph))
  words_test graph =
      refusing_sound (NoneIsBad tokens IsBad) (RefusesWords tokens IsBad graph)
      (λ file reason none refused.
      none refused.0 (refused.1.place, refused.1.at) refused.1.bad) (words_cause graph)

test_laws : (graph : List ℕ) (read : Analysed) → Laws (test_plan graph read)
test_laws graph read = (words_test read.tokens (IsBadWord read) graph, tt)

pub morpho_laws : (graph text alphabet : List ℕ) (names : List (List ℕ)) →
    Laws (morpho_plan graph text alphabet names)
morpho_laws graph text alphabet names =
    laws_then (test_plan graph) (test_laws graph) (files_plan graph text alphabet names)
    (files_laws graph text alphabet names)
