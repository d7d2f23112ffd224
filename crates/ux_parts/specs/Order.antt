-- The states from which a net is searched, in the order of their ranks. Inner: the crate's own
-- functions alone speak of it.
use Rattle.std.specs.Prelude.{◌≡◌, ℕ, ◌+◌, ◌<◌, ◌⊎◌, ◌≢◌, List, [], ◌∷◌, Option, None, Some, slice_get, get_or, length, Bool, true, false, cond, nat_eq, ◌&&◌}
use Rattle.std.specs.Ordering.{nat_cmp, ordering_then}
use Rattle.std.specs.declared.cmp.Ordering.{Ordering}
use Rattle.std.specs.List.{range_with_len, flat_map, dedup}
use Rattle.std.specs.List.Sorted.{IsPermutation, IsSorted}
use Rattle.ux_net.specs.declared.label.Label.{Label}
use Rattle.ux_net.specs.declared.label.Label.TheVariants.{Positive, Negative}
use Rattle.ux_net.specs.declared.net_graph.NetGraph.{NetGraph}
use Rattle.ux_net.specs.declared.net_graph.Rank.{Rank}
use Rattle.ux_net.specs.declared.state.Edge.{Edge}
use Rattle.ux_net.specs.declared.state.State.{State}
use Rattle.ux_net.specs.Closings.{closing_of}
use Rattle.ux_net.specs.Nets.{graph_at, states_of}
use Rattle.ux_parts.specs.declared.part.Part.{Part}
use Rattle.ux_parts.specs.Parts.{number_in, closing_list}

-- the rank of a state as its major and its minor number, its graph, and the state
abbrev pub Entry : Type 0
Entry = ℕ × ℕ × ℕ × ℕ

abbrev pub ranks_in : Option NetGraph → List Rank
ranks_in None = []
ranks_in (Some graph) = graph.ranks

abbrev pub rank_at : List NetGraph → (g state : ℕ) → Rank
rank_at net g state =
    get_or (ranks_in (graph_at net g)) state (record { major = 0; minor = 0 })

abbrev pub entry_of : List NetGraph → (g state : ℕ) → Entry
entry_of net g state =
    ((rank_at net g state).major, (rank_at net g state).minor, g, state)

-- a label that opens a context
abbrev pub is_opening : Label → Bool
is_opening Positive = true
is_opening Negative = true
is_opening other = false

module _ (net : List NetGraph) (g : ℕ) where
  -- the entry of the state into which a context opens along an edge
  abbrev pub entries_by : Edge → List Entry
  entries_by edge = cond (is_opening edge.label) (entry_of net g edge.target ∷ []) []

  abbrev pub entries_from : State → List Entry
  entries_from state = flat_map entries_by state.edges

  -- that of the first state of a graph, and those of its contexts
  abbrev pub entries_at : List Entry
  entries_at = entry_of net g 0 ∷ flat_map entries_from (states_of net g)

-- those of so many graphs
abbrev pub all_entries : List NetGraph → ℕ → List Entry
all_entries net count = flat_map (λ k. entries_at net (k + 1)) (range_with_len 0 count)

-- entries by major number, then by minor number, then by graph, then by state
abbrev pub entry_cmp : (x y : Entry) → Ordering
entry_cmp x y = ordering_then (ordering_then (ordering_then (nat_cmp x.0 y.0)
    (nat_cmp x.1 y.1)) (nat_cmp x.2 y.2)) (nat_cmp x.3 y.3)

abbrev pub same_entry : (x y : Entry) → Bool
same_entry x y =
    ((nat_eq x.0 y.0 && nat_eq x.1 y.1) && nat_eq x.2 y.2) && nat_eq x.3 y.3

-- the entries in order, each once
pub record IsOrderOf (entries order : List Entry) : Type 0 where
  pub sorted : List Entry
  pub permutation : IsPermutation entries sorted
  pub ascends : IsSorted entry_cmp sorted
  pub is : order ≡ dedup same_entry sorted

-- an entry as a part
abbrev pub part_of : List NetGraph → Entry → Part
part_of net entry = record {
  graph = entry.2;
  first = entry.3;
  closing = closing_list (closing_of net entry.2 entry.3);
}

-- the rows have the number at the state of the graph, and else what they had
pub record IsPut (old new : List (List (Option ℕ))) (g state number : ℕ) : Type 0 where
  pub len : length new ≡ length old
  pub here : number_in new g state ≡ Some number
  pub elsewhere : (h other : ℕ) → (h ≢ g) ⊎ (other ≢ state) →
      number_in new h other ≡ number_in old h other

-- the rows tell a place of each of the first entries, at its state
pub record AreNumbers (order : List Entry) (count : ℕ) (rows : List (List (Option ℕ))) :
    Type 0 where
  pub right : (g state number : ℕ) → number_in rows g state ≡ Some number →
      (entry : Entry) × (slice_get order number ≡ Some entry) × (entry.2 ≡ g) × (entry.3 ≡ state)
  pub each : (place : ℕ) (entry : Entry) → place < count → slice_get order place ≡ Some entry →
      (number : ℕ) × (number_in rows entry.2 entry.3 ≡ Some number)
