-- Where a net tells that contexts which may not follow are closed: by the state into which one opens.
-- The manual, on contexts. Public: the crate's public contracts speak of it.
use Rattle.std.specs.Prelude.{◌≡◌, ℕ, ◌<◌, List, [], Option, Some, None, slice_get, get_or, Contains, length}
use Rattle.ux_net.specs.declared.label.Label.TheVariants.{Negative}
use Rattle.ux_net.specs.declared.state.Edge.{Edge}
use Rattle.ux_net.specs.declared.state.State.{State}
use Rattle.ux_net.specs.declared.net_graph.NetGraph.{NetGraph}
use Rattle.ux_net.specs.declared.net_graph.Closing.{Closing}
use Rattle.ux_net.specs.Closers.{ClosesInto}
use Rattle.ux_net.specs.Keys.{first_with}
use Rattle.ux_net.specs.Nets.{graph_at, states_of, net_grammar}

-- the state that the first of the entries for a state tells
abbrev pub closing_in : List Closing → (state : ℕ) → Option ℕ
closing_in entries state =
    first_with (λ (entry : Closing). entry.opening) (λ (entry : Closing). entry.closing) entries state

-- the entries of a graph, where there is one
abbrev pub closings_at : Option NetGraph → List Closing
closings_at None = []
closings_at (Some graph) = graph.closings

-- the state into which the body that begins at a state of a graph is closed, as far as the net tells it
abbrev pub closing_of : List NetGraph → (g state : ℕ) → Option ℕ
closing_of graphs g state = closing_in (closings_at (graph_at graphs g)) state

-- the entries ascend by the states into which contexts open, each of which has one
pub record Ascend (entries : List Closing) : Type 0 where
  pub by_opening : (i j : ℕ) → i < j → j < length entries →
      (get_or entries i (record { opening = 0; closing = 0 })).opening
      < (get_or entries j (record { opening = 0; closing = 0 })).opening

-- the entries of each graph ascend
abbrev pub AllAscend : List NetGraph → Type 0
AllAscend graphs = (g : ℕ) → Ascend (closings_at (graph_at graphs g))

-- the body that begins at a state of a graph is closed into this state, and into no other
pub record IsClosedInto (graphs : List NetGraph) (g state target : ℕ) : Type 0 where
  pub into : ClosesInto (net_grammar graphs) g state target
  pub only : (c : ℕ) → ClosesInto (net_grammar graphs) g state c → c ≡ target

-- each context that may not follow is closed into one state, which the net tells
abbrev pub TellsClosings : List NetGraph → Type 0
TellsClosings graphs = (g n : ℕ) (state : State) (edge : Edge) →
    slice_get (states_of graphs g) n ≡ Some state → Contains state.edges edge →
    edge.label ≡ Negative →
    (target : ℕ) × (closing_of graphs g edge.target ≡ Some target)
    × IsClosedInto graphs g edge.target target
