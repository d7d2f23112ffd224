-- What the command `fst2` reads, and what answers it. This file carries the command's meaning.
use Rattle.std.specs.Prelude.{ℕ, Bool, List}
use Rattle.ux_alphabet.specs.Letters.{Letters}
use Rattle.ux_plan.specs.Commands.{Command}
use Rattle.ux_plan.specs.Laws.{Laws}
use Rattle.ux_plan.specs.Plans.{Plan, gives, reads, then}
use Rattle.ux_plan.proofs.PlanLaws.{laws_then}
use Rattle.ux_reasons.specs.declared.reason.Reason.{Reason}
use Rattle.ux_net.specs.declared.net_graph.NetGraph.{NetGraph}
use Rattle.ux_fst2.specs.Files.{IsTextOf}
use Rattle.ux_grammars.specs.Graphs.{grammar_plan}
use Rattle.ux_grammars.specs.Reading.{HasStatesOf}
use Rattle.ux_grammars.specs.Sources.{Source}
use Rattle.ux_grammars.proofs.GrammarLaws.{grammar_laws}
use Rattle.ux_texts.specs.Texts.{alphabet_format}
use Rattle.ux_texts.proofs.TextLaws.{alphabet_sound}

-- the alphabet is read first, then the grammar
abbrev pub letters_and_grammar : (graph alphabet : List ℕ) → (chars : Bool) →
    Plan Reason (Letters × Source)
letters_and_grammar graph alphabet chars =
    reads alphabet (alphabet_format chars) (λ letters.
    then (grammar_plan graph letters) (λ source.
    gives (letters, source)))

-- each format of that plan is sound
abbrev pub letters_and_grammar_laws : (graph alphabet : List ℕ) → (chars : Bool) →
    Laws (letters_and_grammar graph alphabet chars)
letters_and_grammar_laws graph alphabet chars = (
  alphabet_sound chars,
  λ letters. laws_then (λ source. gives (letters, source)) (λ source. tt)
      (grammar_plan graph letters) (grammar_laws graph letters),
)

-- the text is that of the net that has the states of the grammar: those that are constructed of its
-- boxes, or those of a compiled one
pub record IsCompiledText (letters : Letters) (source : Source) (text : List ℕ) : Type 0 where
  pub net : List NetGraph
  pub states : HasStatesOf letters source net
  pub is : IsTextOf net text

-- a grammar as a file of states, its boxes compiled in these letters
abbrev pub fst2 : (graph alphabet : List ℕ) → (chars : Bool) → Command Reason
fst2 graph alphabet chars = record {
  Read = Letters × Source;
  plan = letters_and_grammar graph alphabet chars;
  laws = letters_and_grammar_laws graph alphabet chars;
  Answers = λ read answer. IsCompiledText read.0 read.1 answer;
}
