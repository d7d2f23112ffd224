-- The states of a file to which runs come, as a grammar. Public: the crate's public contracts speak of
-- it.
use Rattle.std.specs.Prelude.{List, length}
use Rattle.ux_net.specs.declared.state_graph.StateGraph.{StateGraph}
use Rattle.ux_net.specs.Nets.{IsNetStep, IsNetEnd}
use Rattle.ux_net.specs.StateGraphs.{told_states, state_grammar}
use Rattle.ux_net.specs.Words.{Grammar}
use Rattle.ux_admission.specs.Admissible.{IsMet}

-- The grammar of the graphs, with the same steps and ends. Its places are the states to which a run
-- comes, from the start or from a state into which a context opens.
abbrev pub met_grammar : List StateGraph → Grammar
met_grammar graphs = record {
  count = length graphs;
  graph = λ g. record {
    start = 0;
    IsPlace = IsMet (state_grammar graphs) g;
    IsEnd = IsNetEnd (told_states graphs g);
    IsStep = IsNetStep (told_states graphs g);
  };
}
