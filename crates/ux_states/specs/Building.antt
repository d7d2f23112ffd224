-- How a graph of a net is built of its states and of the places that stand for them. Inner: the
-- crate's own functions alone speak of it.
use Rattle.std.specs.Prelude.{◌≡◌, ℕ, ◌+◌, List, [], ◌∷◌, ◌++◌, length, map, get_or, Bool, false, cond, Some}
use Rattle.ux_net.specs.declared.net_graph.NetGraph.{NetGraph}
use Rattle.ux_net.specs.declared.net_graph.Rank.{Rank}
use Rattle.ux_net.specs.declared.net_graph.UnmetState.{UnmetState}
use Rattle.ux_net.specs.declared.state.State.{State}
use Rattle.ux_net.specs.declared.state_graph.StateGraph.{StateGraph}
use Rattle.ux_net.specs.Nets.{graph_at}
use Rattle.ux_net.specs.StateGraphs.{told_at}
use Rattle.ux_net.specs.Whole.{bare_state}
use Rattle.ux_boxes.specs.declared.place.Place.{Place}
use Rattle.ux_boxes.specs.Numbers.{number_of}
use Rattle.ux_boxes.specs.Places.{places_of, is_reached}
use Rattle.ux_admission.specs.Admission.{row_at}
use Rattle.ux_admission.specs.ToldClosings.{closings_of}

-- what is kept aside of a state
abbrev pub entry_of : ℕ → State → UnmetState
entry_of n state = record { number = n; is_final = state.is_final; edges = state.edges }

module _ (met : ℕ → Bool) where
  -- what is searched of a state: nothing, where no run comes to it
  abbrev pub searched : ℕ → State → State
  searched n state = cond (met n) state bare_state

  -- what is kept aside of it
  abbrev pub aside : ℕ → State → List UnmetState
  aside n state = cond (met n) [] (entry_of n state ∷ [])

  -- the same of the states from this number on
  abbrev pub searched_from : ℕ → List State → List State
  searched_from n [] = []
  searched_from n (state ∷ states) = searched n state ∷ searched_from (n + 1) states

  abbrev pub aside_from : ℕ → List State → List UnmetState
  aside_from n [] = []
  aside_from n (state ∷ states) = aside n state ++ aside_from (n + 1) states

-- a run comes to the state: to its hub
abbrev pub is_met : List Place → List ℕ → ℕ → Bool
is_met places hubs n = is_reached places (get_or hubs n 0)

-- the rank of a state with this hub
abbrev pub hub_rank : List ℕ → ℕ → Rank
hub_rank row hub = record { major = get_or row hub 0; minor = 0 }

-- its mark
abbrev pub hub_free : List Bool → ℕ → Bool
hub_free row hub = get_or row hub false

-- the graph is built of its states, and of the places and hubs that stand for them
pub record IsBuiltOf (graph : StateGraph) (places : List Place) (stands hubs : List ℕ)
    (row : ℕ → List ℕ) (rank_row : List ℕ) (free_row : List Bool) (built : NetGraph) : Type 0 where
  pub name : built.name ≡ graph.name
  pub states : built.states ≡ searched_from (is_met places hubs) 0 graph.states
  pub unmet : built.unmet ≡ aside_from (is_met places hubs) 0 graph.states
  pub ranks : built.ranks ≡ map (hub_rank rank_row) hubs
  pub free : built.free ≡ map (hub_free free_row) hubs
  pub closings : built.closings ≡ closings_of (λ p. get_or stands p 0) places row

-- the row of closers of each place of a graph
abbrev pub closers_at : List (List Place) → List (List ℕ) → (g p : ℕ) → List ℕ
closers_at places rows g p = get_or rows (number_of places g p) []

-- each graph is built so, in order
pub record AreBuilt (graphs : List StateGraph) (places : List (List Place))
    (stands hubs rows ranks : List (List ℕ)) (free : List (List Bool)) (net : List NetGraph) :
    Type 0 where
  pub count : length net ≡ length graphs
  pub each : (g : ℕ) (graph : StateGraph) (built : NetGraph) → told_at graphs g ≡ Some graph →
      graph_at net g ≡ Some built →
      IsBuiltOf graph (places_of places g) (row_at stands g) (row_at hubs g) (closers_at places rows g)
      (row_at ranks g) (row_at free g) built
