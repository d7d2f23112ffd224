-- Paths along the edges of a graph, whatever stands on them. Inner: the crate's own functions alone speak
-- of it.
use Rattle.std.specs.Prelude.{◌≡◌, ℕ, ◌<◌, List, Some, map, Contains, Bool, true, length, slice_get}
use Rattle.ux_digraph.specs.Paths.{Reaches}
use Rattle.ux_digraph.specs.Rules.{is_marked_at}
use Rattle.ux_net.specs.declared.state.Edge.{Edge}
use Rattle.ux_net.specs.declared.state.State.{State}
use Rattle.ux_net.specs.Nets.{IsNetEnd}

abbrev pub target_of : Edge → ℕ
target_of edge = edge.target

-- the states to which the edges of a state lead, and a row of them for each state
abbrev pub targets_in : State → List ℕ
targets_in state = map target_of state.edges

abbrev pub target_rows : List State → List (List ℕ)
target_rows states = map targets_in states

-- each edge leads to a state that is there
abbrev pub StayInside : List State → Type 0
StayInside states = (n : ℕ) (state : State) (edge : Edge) → slice_get states n ≡ Some state →
    Contains state.edges edge → edge.target < length states

-- a path leads from state 0 to a final state
abbrev pub LeadsToEnd : List State → Type 0
LeadsToEnd states = (n : ℕ) × IsNetEnd states n × Reaches (target_rows states) 0 n

-- a final state is marked
abbrev pub HasMarkedEnd : List State → List Bool → Type 0
HasMarkedEnd states marks = (n : ℕ) × IsNetEnd states n × (is_marked_at marks n ≡ true)
