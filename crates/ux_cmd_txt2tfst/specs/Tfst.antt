-- What the command `txt2tfst` reads, and what answers it. This file carries the command's meaning.
use Rattle.std.specs.Prelude.{ℕ, Bool, List}
use Rattle.ux_alphabet.specs.Letters.{Letters}
use Rattle.ux_apply.specs.Applied.{AreApplied}
use Rattle.ux_apply.specs.declared.priority.Priority.{Priority}
use Rattle.ux_dela.specs.declared.entry.Entry.{Entry}
use Rattle.ux_dictionaries.specs.Texts.{LookedUp, text_with_dictionaries}
use Rattle.ux_dictionaries.proofs.TextLaws.{text_with_dictionaries_laws}
use Rattle.ux_lexical_tables.specs.Tables.{Tables}
use Rattle.ux_plan.specs.Commands.{Command}
use Rattle.ux_reasons.specs.declared.reason.Reason.{Reason}
use Rattle.ux_sentence.specs.Written.{IsPrintedFile}
use Rattle.ux_sentence.specs.declared.sentence.Sentence.{Sentence}
use Rattle.ux_text_automaton.specs.Built.{AreSentences}
use Rattle.ux_tokens.specs.Tokens.{Token}

-- the answer is the file of the automata of the text's sentences, by the tables of its entries
pub record AreAutomata (tokens : List Token) (tables : Tables) (answer : List ℕ) : Type 0 where
  pub sentences : List Sentence
  pub built : AreSentences tokens tables sentences
  pub is : IsPrintedFile sentences answer

-- the same, where the dictionaries' entries are applied to the text
pub record AreAutomataBy (letters : Letters) (tokens : List Token)
    (dics : List (Priority × List Entry)) (answer : List ℕ) : Type 0 where
  pub tables : Tables
  pub applied : AreApplied letters dics tokens tables
  pub automata : AreAutomata tokens tables answer

-- the automata of the sentences of a text
abbrev pub txt2tfst : (text alphabet : List ℕ) → (names : List (List ℕ)) → (chars : Bool) →
    Command Reason
txt2tfst text alphabet names chars = record {
  Read = LookedUp;
  plan = text_with_dictionaries text alphabet names chars;
  laws = text_with_dictionaries_laws text alphabet names chars;
  Answers = λ read answer. AreAutomataBy read.letters read.tokens read.dics answer;
}
