-- What the command `flatten` reads, and what answers it. This file carries the command's meaning.
use Rattle.std.specs.Prelude.{ℕ, List}
use Rattle.ux_alphabet.specs.Letters.{Letters}
use Rattle.ux_flatten.specs.Flattening.{DerivesOverTexts, IsFlatNet}
use Rattle.ux_fst2.specs.Files.{IsTextOf}
use Rattle.ux_grammars.specs.Sources.{Source}
use Rattle.ux_net.specs.declared.net_graph.NetGraph.{NetGraph}
use Rattle.ux_net.specs.declared.state_graph.StateGraph.{StateGraph}
use Rattle.ux_plan.specs.Commands.{Command}
use Rattle.ux_reasons.specs.declared.reason.Reason.{Reason}
use Rattle.ux_cmd_flatten.specs.Laws.{flat_laws}
use Rattle.ux_cmd_flatten.specs.Reading.{flat_plan}
use Rattle.ux_cmd_flatten.specs.Refusing.{HasStates}

-- The text is that of the flat net of the grammar to the depth. Over every text, with every
-- dictionary, the net derives exactly what the grammar derives where calls are followed to the depth.
pub record IsFlatText (letters : Letters) (source : Source) (depth : ℕ) (text : List ℕ) : Type 0 where
  pub graphs : List StateGraph
  pub states : HasStates letters source graphs
  pub flat : List NetGraph
  pub is_flat : IsFlatNet graphs depth flat
  pub derives : DerivesOverTexts graphs depth flat
  pub is : IsTextOf flat text

-- the flat grammar as a file of states
abbrev pub flatten : (graph alphabet : List ℕ) → (depth : ℕ) → Command Reason
flatten graph alphabet depth = record {
  Read = Letters × Source;
  plan = flat_plan graph alphabet depth;
  laws = flat_laws graph alphabet depth;
  Answers = λ read answer. IsFlatText read.0 read.1 depth answer;
}
