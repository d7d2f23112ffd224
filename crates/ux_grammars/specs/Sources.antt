-- A grammar as its files tell it: by boxes, or by the states of a compiled grammar. Public: the
-- crate's public contracts speak of it.
use Rattle.std.specs.Prelude.{List}
use Rattle.ux_alphabet.specs.Letters.{Letters}
use Rattle.ux_boxes.specs.Boxes.{Drawn, box_grammar}
use Rattle.ux_net.specs.Words.{Grammar}
use Rattle.ux_net.specs.declared.state_graph.StateGraph.{StateGraph}
use Rattle.ux_states.specs.Met.{met_grammar}

-- graphs as they are drawn, or graphs of states; the first is the main graph
pub data Source : Type 0 where
  of_boxes : List Drawn → Source
  of_states : List StateGraph → Source

-- the grammar that they are; the alphabet cuts what stands in boxes into tokens
abbrev pub grammar_of : Letters → Source → Grammar
grammar_of letters (of_boxes graphs) = box_grammar letters graphs
grammar_of letters (of_states graphs) = met_grammar graphs
