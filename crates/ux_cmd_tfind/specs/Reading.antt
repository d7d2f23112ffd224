-- What the command `tfind` reads, in which order. Public, through `Tfind`.
use Rattle.std.specs.Prelude.{ℕ, false, List}
use Rattle.ux_alphabet.specs.Letters.{Letters}
use Rattle.ux_grammars.specs.Graphs.{grammar_plan}
use Rattle.ux_grammars.specs.Sources.{Source}
use Rattle.ux_plan.specs.Plans.{Format, Plan, decoded, gives, reads, refusing, said_as, tests, then}
use Rattle.ux_reasons.specs.declared.reason.Reason.{Reason}
use Rattle.ux_reasons.specs.declared.reason.Reason.TheVariants as reason
use Rattle.ux_sentence.specs.Files as file
use Rattle.ux_sentence.specs.declared.sentence.Sentence.{Sentence}
use Rattle.ux_texts.specs.Texts.{alphabet_format}
use Rattle.ux_cmd_tfind.specs.Refusing.{CanSearch, RefusesGrammar}

-- files of sentence automata
abbrev pub sentences_format : Format Reason (List Sentence)
sentences_format = decoded reason.Decode (said_as reason.Sentence file.AreSentences file.Refuses)

-- what is read: the letters, a grammar, and the automata of sentences
pub record Searched : Type 0 where
  pub letters : Letters
  pub source : Source
  pub sentences : List Sentence

-- the alphabet, then the grammar, which can be searched in automata, and then these
abbrev pub tfind_plan : (graph tfst alphabet : List ℕ) → Plan Reason Searched
tfind_plan graph tfst alphabet =
    reads alphabet (alphabet_format false) (λ letters.
    then (grammar_plan graph letters) (λ source.
    tests (CanSearch letters source) (refusing (RefusesGrammar graph letters source))
    (reads tfst sentences_format (λ sentences.
    gives (record { letters = letters; source = source; sentences = sentences })))))
