-- Which graphs of a net have words without end. Public: the crate's public contracts speak of it.
use Rattle.std.specs.Prelude.{ℕ, List, [], ◌∷◌, map, ◌⊎◌}
use Rattle.std.specs.List.{flat_map}
use Rattle.ux_digraph.specs.Paths.{Path, Reaches}
use Rattle.ux_net.specs.declared.label.Label.{Label}
use Rattle.ux_net.specs.declared.label.Label.TheVariants.{Call}
use Rattle.ux_net.specs.declared.net_graph.NetGraph.{NetGraph}
use Rattle.ux_net.specs.declared.state.Edge.{Edge}
use Rattle.ux_net.specs.declared.state.State.{State}
use Rattle.ux_net.specs.Nets.{states_of}

-- the states to which each state leads
abbrev pub targets_of : State → List ℕ
targets_of state = map (λ (edge : Edge). edge.target) state.edges

abbrev pub state_rows : List State → List (List ℕ)
state_rows states = map targets_of states

-- the graphs that are called on the edges of a graph
abbrev pub called_on : Label → List ℕ
called_on (Call h) = h ∷ []
called_on label = []

abbrev pub calls_of_state : State → List ℕ
calls_of_state state = flat_map (λ (edge : Edge). called_on edge.label) state.edges

abbrev pub calls_of : NetGraph → List ℕ
calls_of graph = flat_map calls_of_state graph.states

-- the same by the numbers of graphs, which are counted from 1
abbrev pub call_rows : List NetGraph → List (List ℕ)
call_rows net = [] ∷ map calls_of net

-- a cycle of states that a path from the start reaches
pub record HasCycle (states : List State) : Type 0 where
  pub state : ℕ
  pub reached : Reaches (state_rows states) 0 state
  pub cycle : Path (state_rows states) state state

-- the main graph, or one that calls from it reach, that has a cycle or reaches itself by calls
pub record IsCyclic (net : List NetGraph) (g : ℕ) : Type 0 where
  pub reached : Reaches (call_rows net) 1 g
  pub cyclic : HasCycle (states_of net g) ⊎ Path (call_rows net) g g
