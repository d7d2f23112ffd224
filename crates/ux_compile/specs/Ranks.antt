-- Ranks of the states that are made of places, from ranks of the places: why every walk ends.
-- Inner: the crate's own functions alone speak of it.
use Rattle.std.specs.Prelude.{◌≡◌, ℕ, ◌+◌, ◌≤◌, max, List, [], get_or, Option, None, Some, Contains, length, drop, Bool, false, cond}
use Rattle.std.specs.List.{prefix_len}
use Rattle.ux_net.specs.declared.label.Label.{Label}
use Rattle.ux_boxes.specs.declared.place.Place.{Place}
use Rattle.ux_net.specs.declared.net_graph.NetGraph.{NetGraph}
use Rattle.ux_net.specs.declared.net_graph.Rank.{Rank}
use Rattle.ux_boxes.specs.Places.{label_lines, places_of}
use Rattle.ux_net.specs.Nets.{graph_at, IsCalled}
use Rattle.ux_admission.specs.ToldClosings.{closings_of}
use Rattle.ux_compile.specs.Construct.{called_at, labels_at, number, by_state, states_of, AreFit}
use Rattle.ux_boxes.specs.Numbers.{number_of}
use Rattle.ux_net.specs.Silent.{is_silent, are_silent}
use Rattle.ux_admission.specs.Admission.{place_rank, is_place_free}

-- how many labels come before the first that isn't silent
abbrev pub silent_len : List Label → ℕ
silent_len labels = prefix_len is_silent labels

-- The rank of a state from which these labels lead to a place of this rank: above the place where
-- they are all silent, else below all places. The longer the silent labels in front, the higher.
abbrev pub rest_rank : ℕ → List Label → Rank
rest_rank rank rest = record {
  major = cond (are_silent rest) (rank + 1) 0;
  minor = silent_len rest;
}

-- such a state is marked where its place is and the labels are all silent
abbrev pub rest_free : Bool → List Label → Bool
rest_free free rest = cond (are_silent rest) free false

-- the state of a place of this rank
abbrev pub above : ℕ → Rank
above rank = record { major = rank + 1; minor = 0 }

-- The ranks and the marks of the states of a graph, from those of the places of all graphs.
module _ (ranks : List (List ℕ)) (free : List (List Bool)) where
  -- The rank of a state from which a call of graph h leads to a place of this rank: above the start
  -- of the graph, and where that is marked, above the place too.
  abbrev pub call_rank : (h rank : ℕ) → Rank
  call_rank h rank = record {
    major = max (place_rank ranks h 0) (cond (is_place_free free h 0) rank 0) + 1;
    minor = 1;
  }

  -- such a state is marked where the start of the graph and the place are
  abbrev pub call_free : (h : ℕ) → Bool → Bool
  call_free h mark = cond (is_place_free free h 0) mark false

  -- the rank of a chain state of a line, which may be a call behind an output, from where these
  -- labels lead to a place of this rank
  abbrev pub chain_rank : (called : Option ℕ) → ℕ → List Label → Rank
  chain_rank None rank rest = rest_rank rank rest
  chain_rank (Some h) rank rest = call_rank h rank

  -- the mark of such a state
  abbrev pub chain_free : (called : Option ℕ) → Bool → List Label → Bool
  chain_free None mark rest = rest_free mark rest
  chain_free (Some h) mark rest = call_free h mark

  -- for graph g of these places
  module _ (g : ℕ) (places : List Place) where
    -- the rank of chain state k of line l of place b, which stands before label k + 1
    abbrev pub chain_rank_at : ℕ → ℕ → ℕ → Rank
    chain_rank_at b l k = chain_rank (called_at places b l) (place_rank ranks g b)
        (drop (k + 1) (labels_at places b l))

    -- the mark of that chain state
    abbrev pub chain_free_at : ℕ → ℕ → ℕ → Bool
    chain_free_at b l k = chain_free (called_at places b l) (is_place_free free g b)
        (drop (k + 1) (labels_at places b l))

    -- the rank of each state
    abbrev pub state_ranks : List Rank
    state_ranks = by_state places (λ a. above (place_rank ranks g a)) chain_rank_at

    -- the mark of each state
    abbrev pub state_frees : List Bool
    state_frees = by_state places (is_place_free free g) chain_free_at

-- a call on a line is of a graph that is there
abbrev pub AreCallsInside : List (List Place) → Type 0
AreCallsInside graphs =
    (g b : ℕ) (line : List Label) (label : Label) →
    Contains (label_lines (places_of graphs g) b) line → Contains line label →
    IsCalled (length graphs) label

-- states can be made of the places of each graph
abbrev pub AreAllFit : List (List Place) → Type 0
AreAllFit graphs = (g : ℕ) → 1 ≤ g → g ≤ length graphs → AreFit (places_of graphs g)

-- Compiled graph g has the states of the places, with the ranks and the marks of the places. It tells
-- where contexts are closed, as the row of each place does, and keeps no state aside.
pub record IsBuilt (ranks : List (List ℕ)) (free : List (List Bool)) (g : ℕ)
    (row : ℕ → List ℕ) (places : List Place) (graph : NetGraph) : Type 0 where
  pub states : graph.states ≡ states_of places
  pub ranked : graph.ranks ≡ state_ranks ranks free g places
  pub marked : graph.free ≡ state_frees ranks free g places
  pub closings : graph.closings ≡ closings_of (number places) places row
  pub aside : graph.unmet ≡ []

-- the row of each place of a graph
abbrev pub row_of : List (List Place) → List (List ℕ) → (g b : ℕ) → List ℕ
row_of graphs rows g b = get_or rows (number_of graphs g b) []

-- the compiled graphs are built of the graphs, one of each
pub record AreBuilt (graphs : List (List Place)) (rows ranks : List (List ℕ))
    (free : List (List Bool)) (built : List NetGraph) : Type 0 where
  pub count : length built ≡ length graphs
  pub each : (g : ℕ) (graph : NetGraph) → graph_at built g ≡ Some graph →
      IsBuilt ranks free g (row_of graphs rows g) (places_of graphs g) graph
