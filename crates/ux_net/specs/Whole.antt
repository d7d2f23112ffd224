-- The states of a net as a file tells them. A state to which no run comes is kept aside, so that all
-- that is said of the states that are searched needn't hold of it. Public: the crate's public
-- contracts speak of it.
use Rattle.std.specs.Prelude.{◌≡◌, ℕ, ◌+◌, ◌<◌, List, [], ◌∷◌, Option, Some, None, slice_get, get_or, Contains, length, map, false}
use Rattle.ux_net.specs.declared.net_graph.NetGraph.{NetGraph}
use Rattle.ux_net.specs.declared.net_graph.UnmetState.{UnmetState}
use Rattle.ux_net.specs.declared.state.State.{State}
use Rattle.ux_net.specs.declared.state_graph.StateGraph.{StateGraph}
use Rattle.ux_net.specs.Keys.{first_with}
use Rattle.ux_net.specs.Nets.{graph_at}

-- the first of the entries for a state
abbrev pub unmet_in : List UnmetState → (state : ℕ) → Option UnmetState
unmet_in entries state =
    first_with (λ (entry : UnmetState). entry.number) (λ entry. entry) entries state

-- a state, with what is kept aside of it
abbrev pub put_back : Option UnmetState → State → State
put_back None state = state
put_back (Some entry) state = record { is_final = entry.is_final; edges = entry.edges }

-- the states from this number on, each with what is kept aside of it
abbrev pub whole_from : List UnmetState → ℕ → List State → List State
whole_from unmet n [] = []
whole_from unmet n (state ∷ states) =
    put_back (unmet_in unmet n) state ∷ whole_from unmet (n + 1) states

-- the states of a graph, with what is kept aside of them
abbrev pub whole_states : NetGraph → List State
whole_states graph = whole_from graph.unmet 0 graph.states

-- the same, where there is a graph
abbrev pub whole_in : Option NetGraph → List State
whole_in None = []
whole_in (Some graph) = whole_states graph

-- the same of the graph of this number
abbrev pub whole_states_of : List NetGraph → ℕ → List State
whole_states_of graphs g = whole_in (graph_at graphs g)

-- the graph as a file has it
abbrev pub told_graph : NetGraph → StateGraph
told_graph graph = record { name = graph.name; states = whole_states graph }

-- The net has exactly these states: its graphs have the names and the states of these, in order. So
-- it is the same net as another that has them.
abbrev pub HaveSameStates : List NetGraph → List StateGraph → Type 0
HaveSameStates net graphs = map told_graph net ≡ graphs

-- what is kept aside, where there is a graph
abbrev pub unmet_at : Option NetGraph → List UnmetState
unmet_at None = []
unmet_at (Some graph) = graph.unmet

-- a state without edges in which no word ends
abbrev pub bare_state : State
bare_state = record { is_final = false; edges = [] }

-- the entries ascend by number, and in their place stand bare states
pub record AreAside (entries : List UnmetState) (states : List State) : Type 0 where
  pub ascend : (i j : ℕ) → i < j → j < length entries →
      (get_or entries i (record { number = 0; is_final = false; edges = [] })).number
      < (get_or entries j (record { number = 0; is_final = false; edges = [] })).number
  pub bare : (entry : UnmetState) → Contains entries entry →
      slice_get states entry.number ≡ Some bare_state
