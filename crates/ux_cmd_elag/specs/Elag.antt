-- What the command `elag` reads, and what answers it. This file carries the command's meaning.
use Rattle.std.specs.Prelude.{ℕ, List, Contains}
use Rattle.std.specs.List.{AllZip}
use Rattle.ux_plan.specs.Commands.{Command}
use Rattle.ux_reasons.specs.declared.reason.Reason.{Reason}
use Rattle.ux_grf.specs.declared.graph.Graph.{Graph}
use Rattle.ux_elag.specs.Left.{Keeps}
use Rattle.ux_rules.specs.Rules.{SatisfiesGraph}
use Rattle.ux_sentence.specs.declared.sentence.Reading.{Reading}
use Rattle.ux_sentence.specs.declared.sentence.Sentence.{Sentence}
use Rattle.ux_sentence.specs.Written.{IsPrintedFile}
use Rattle.ux_cmd_elag.specs.Reading.{Ruled, elag_plan}
use Rattle.ux_cmd_elag.specs.Laws.{laws}

-- the list of readings satisfies the rule of each graph
abbrev pub SatisfiesEachGraph : List Graph → List Reading → Type 0
SatisfiesEachGraph graphs readings =
    (graph : Graph) → Contains graphs graph → SatisfiesGraph graph readings

-- the answer is the file of the sentences, of each of which exactly the reading lists that satisfy
-- every rule are left
pub record AreRuled (read : Ruled) (answer : List ℕ) : Type 0 where
  pub left : List Sentence
  pub each : AllZip (Keeps (SatisfiesEachGraph read.rules)) read.sentences left
  pub is : IsPrintedFile left answer

-- the automata of sentences, after these rules
abbrev pub elag : (tfst : List ℕ) → (rules : List (List ℕ)) → Command Reason
elag tfst rules = record {
  Read = Ruled;
  plan = elag_plan tfst rules;
  laws = laws tfst rules;
  Answers = AreRuled;
}
