-- Graphs as a file has them: a name, and states in order. Public: the crate's public contracts speak
-- of it.
use Rattle.std.specs.Prelude.{◌≡◌, ℕ, zero, suc, ◌<◌, List, [], Option, Some, None, slice_get, Contains, length}
use Rattle.ux_net.specs.declared.state.Edge.{Edge}
use Rattle.ux_net.specs.declared.state.State.{State}
use Rattle.ux_net.specs.declared.state_graph.StateGraph.{StateGraph}
use Rattle.ux_net.specs.Nets.{net_graph, IsEdgeInside}
use Rattle.ux_net.specs.Words.{Grammar}

-- the graph of this number, counted from 1
abbrev pub told_at : List StateGraph → ℕ → Option StateGraph
told_at graphs zero = None
told_at graphs (suc n) = slice_get graphs n

-- the states of a graph, where there is one
abbrev pub told_in : Option StateGraph → List State
told_in None = []
told_in (Some graph) = graph.states

-- the states of the graph of this number
abbrev pub told_states : List StateGraph → ℕ → List State
told_states graphs g = told_in (told_at graphs g)

-- the grammar of these graphs, of which the first is the main graph: a state is a place, an edge a
-- step of one label
abbrev pub state_grammar : List StateGraph → Grammar
state_grammar graphs = record {
  count = length graphs;
  graph = λ g. net_graph (told_states graphs g);
}

-- Each graph has a state and few enough to number them, and every edge leads to a state and calls a
-- graph that is there.
pub record AreInsideStates (graphs : List StateGraph) : Type 0 where
  pub start : (g : ℕ) (graph : StateGraph) → told_at graphs g ≡ Some graph →
      0 < length graph.states
  pub few : (g : ℕ) (graph : StateGraph) → told_at graphs g ≡ Some graph →
      length graph.states < 4294967296
  pub edges : (g n : ℕ) (state : State) (edge : Edge) →
      slice_get (told_states graphs g) n ≡ Some state → Contains state.edges edge →
      IsEdgeInside (length graphs) (length (told_states graphs g)) edge
