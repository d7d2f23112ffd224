-- The states from which edges close contexts, and how they are marked. Inner: the crate's own functions
-- alone speak of it.
use Rattle.std.specs.Prelude.{◌≡◌, ℕ, zero, suc, Bool, true, List, [], Some, slice_get, get_or, Contains}
use Rattle.ux_net.specs.declared.label.Label.TheVariants.{ContextEnd}
use Rattle.ux_net.specs.declared.net_graph.NetGraph.{NetGraph}
use Rattle.ux_net.specs.declared.state.Edge.{Edge}
use Rattle.ux_net.specs.declared.state.State.{State}
use Rattle.ux_net.specs.Nets.{states_of}
use Rattle.ux_chart.specs.declared.closing_states.ClosingStates.{ClosingStates}

-- one of the edges closes a context
abbrev pub SomeCloses : List Edge → Type 0
SomeCloses edges = (edge : Edge) × Contains edges edge × (edge.label ≡ ContextEnd)

-- each state of the graph from which an edge closes a context has a mark
abbrev pub AreMarks : List NetGraph → (g : ℕ) → List Bool → Type 0
AreMarks net g marks = (n : ℕ) (state : State) → slice_get (states_of net g) n ≡ Some state →
    SomeCloses state.edges → slice_get marks n ≡ Some true

-- the row of a graph, counted from 1
abbrev pub marks_at : List (List Bool) → (g : ℕ) → List Bool
marks_at rows zero = []
marks_at rows (suc n) = get_or rows n []

-- the states of each graph have their marks
abbrev pub AreClosing : List NetGraph → ClosingStates → Type 0
AreClosing net closing = (g : ℕ) → AreMarks net g (marks_at closing.rows.items g)
