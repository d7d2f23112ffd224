-- Rows without what is no node have the same paths between nodes, and the rows of a net are those of
-- its edges and calls.
use Rattle.std.proofs.Common.{arith, ◌≡◌, ℕ, zero, suc, ◌<◌, List, [], ◌∷◌, refl, sym, ◌∙◌, ap, subst, map, length, get_or, filter, inl, inr, Bool, true, cond, Some}
use Rattle.std.specs.Prelude.{Contains, slice_get, nat_lt}
use Rattle.std.specs.List.{flat_map}
use Rattle.ux_base.proofs.JoinedLists.{contains_mapped, contains_joined}
use Rattle.ux_base.proofs.Lists.{nothing_in, first_or_later, contains_first, contains_later}
use Rattle.ux_base.proofs.OrderedLists.{Contains-filter}
use Rattle.std.proofs.lemmas.Bool.{cases_Bool}
use Rattle.ux_digraph.specs.Paths.{row_of, Path, one, more, Reaches, here, step, IsInside}
use Rattle.ux_digraph.proofs.PathsLemmas.{edge_from}
use Rattle.ux_net.specs.declared.net_graph.NetGraph.{NetGraph}
use Rattle.ux_net.specs.declared.state.Edge.{Edge}
use Rattle.ux_net.specs.declared.state.State.{State}
use Rattle.ux_net.specs.Nets.{states_of}
use Rattle.ux_inflect.specs.Cyclic.{targets_of, state_rows, called_on, calls_of_state, calls_of, call_rows}
use Rattle.ux_inflect.specs.Rows.{inner_rows}

abbrev test : ℕ → ℕ → Bool
test bound end = nat_lt end bound

filter_contained : (p : ℕ → Bool) (xs : List ℕ) (y : ℕ) → Contains (filter p xs) y →
    Contains xs y × (p y ≡ true)
filter_contained p [] y h = absurd (nothing_in h)
filter_contained p (x ∷ xs) y h = elim (cases_Bool (p x)) [
  | inl is ↦ elim (first_or_later x (filter p xs) y
      (subst (λ (b : Bool). Contains (cond b (x ∷ filter p xs) (filter p xs)) y) is h)) [
        | inl e ↦ (subst (λ z. Contains (x ∷ xs) z) e (contains_first x xs), ap p (sym e) ∙ is)
        | inr l ↦ let r = filter_contained p xs y l in (contains_later x xs y r.0, r.1)
      ]
  | inr is ↦ let r = filter_contained p xs y
      (subst (λ (b : Bool). Contains (cond b (x ∷ filter p xs) (filter p xs)) y) is h) in
      (contains_later x xs y r.0, r.1)
]

row_filtered : (p : ℕ → Bool) (rows : List (List ℕ)) (u : ℕ) →
    row_of (map (filter p) rows) u ≡ filter p (row_of rows u)
row_filtered p [] u = refl
row_filtered p (row ∷ rows) zero = refl
row_filtered p (row ∷ rows) (suc u) = row_filtered p rows u

length_mapped : {A B : Type 0} (f : A → B) (xs : List A) → length (map f xs) ≡ length xs
length_mapped f [] = refl
length_mapped f (x ∷ xs) = ap suc (length_mapped f xs)

lt_true : (a b : ℕ) → a < b → nat_lt a b ≡ true
lt_true a b h = grind arith

lt_from : (a b : ℕ) → nat_lt a b ≡ true → a < b
lt_from a b h = grind arith

module _ (rows : List (List ℕ)) where
  pub length_inner : length (inner_rows rows) ≡ length rows
  length_inner = length_mapped (filter (test (length rows))) rows

  -- an edge of the inner rows is one of the rows, to a node
  pub inner_edge : (u v : ℕ) → Contains (row_of (inner_rows rows) u) v →
      Contains (row_of rows u) v × (v < length rows)
  inner_edge u v h =
      let r = filter_contained (test (length rows)) (row_of rows u) v
      (subst (λ (row : List ℕ). Contains row v) (row_filtered (test (length rows)) rows u) h) in
      (r.0, lt_from v (length rows) r.1)

  pub edge_inner : (u v : ℕ) → Contains (row_of rows u) v → v < length rows →
      Contains (row_of (inner_rows rows) u) v
  edge_inner u v h inside = subst (λ (row : List ℕ). Contains row v)
      (sym (row_filtered (test (length rows)) rows u))
      (Contains-filter (test (length rows)) (row_of rows u) v h (lt_true v (length rows) inside))

  pub inner_inside : IsInside (inner_rows rows)
  inner_inside = record {
    inside = λ u v h. subst (λ n. v < n) (sym length_inner) (inner_edge u v h).1;
  }

  -- paths from node to node are the same
  pub path_outer : {u v : ℕ} → Path (inner_rows rows) u v → Path rows u v
  path_outer {u = u} {v = v} (one c) = one (inner_edge u v c).0
  path_outer {u = u} (more {v = w} c p) = more (inner_edge u w c).0 (path_outer p)

  pub path_from : {u v : ℕ} → Path rows u v → u < length rows
  path_from {u = u} {v = v} (one c) = edge_from rows u v c
  path_from {u = u} (more {v = w} c p) = edge_from rows u w c

  pub path_inner : {u v : ℕ} → Path rows u v → v < length rows → Path (inner_rows rows) u v
  path_inner {u = u} {v = v} (one c) inside = one (edge_inner u v c inside)
  path_inner {u = u} (more {v = w} c p) inside =
      more (edge_inner u w c (path_from p)) (path_inner p inside)

  pub cycle_inner : (u : ℕ) → Path rows u u → Path (inner_rows rows) u u
  cycle_inner u p = path_inner p (path_from p)

  pub reaches_outer : {u v : ℕ} → Reaches (inner_rows rows) u v → Reaches rows u v
  reaches_outer here = here
  reaches_outer {u = u} (step {v = w} c p) = step (inner_edge u w c).0 (reaches_outer p)

  reached_from : {u v : ℕ} → Reaches rows u v → v < length rows → u < length rows
  reached_from here inside = inside
  reached_from {u = u} (step {v = w} c p) inside = edge_from rows u w c

  pub reaches_inner : {u v : ℕ} → Reaches rows u v → v < length rows → Reaches (inner_rows rows) u v
  reaches_inner here inside = here
  reaches_inner {u = u} (step {v = w} c p) inside =
      step (edge_inner u w c (reached_from p inside)) (reaches_inner p inside)

-- the row of a state has the ends of its edges
pub state_row : (states : List State) (n : ℕ) (state : State) → slice_get states n ≡ Some state →
    row_of (state_rows states) n ≡ targets_of state
state_row [] n state found = cc
state_row (s ∷ states) zero state found = cc
state_row (s ∷ states) (suc n) state found = state_row states n state found

pub edge_in_row : (states : List State) (n : ℕ) (state : State) (edge : Edge) →
    slice_get states n ≡ Some state → Contains state.edges edge →
    Contains (row_of (state_rows states) n) edge.target
edge_in_row states n state edge found inside = subst (λ (row : List ℕ). Contains row edge.target)
    (sym (state_row states n state found))
    (contains_mapped (λ (e : Edge). e.target) state.edges edge inside)

-- the row of a graph has what is called in its states
graph_row : (net : List NetGraph) (n : ℕ) →
    get_or (map calls_of net) n [] ≡ flat_map calls_of_state (states_of net (suc n))
graph_row [] n = refl
graph_row (graph ∷ net) zero = refl
graph_row (graph ∷ net) (suc n) = graph_row net n

pub call_row : (net : List NetGraph) (g : ℕ) →
    row_of (call_rows net) g ≡ flat_map calls_of_state (states_of net g)
call_row net zero = refl
call_row net (suc n) = graph_row net n

contains_at : {A : Type 0} (xs : List A) (n : ℕ) (x : A) → slice_get xs n ≡ Some x → Contains xs x
contains_at [] n x found = cc
contains_at (y ∷ ys) zero x found =
    let e : y ≡ x = cc in subst (λ (z : _). Contains (y ∷ ys) z) e (contains_first y ys)
contains_at (y ∷ ys) (suc n) x found = contains_later y ys x (contains_at ys n x found)

pub call_in_row : (net : List NetGraph) (g n : ℕ) (state : State) (edge : Edge) (h : ℕ) →
    slice_get (states_of net g) n ≡ Some state → Contains state.edges edge →
    Contains (called_on edge.label) h → Contains (row_of (call_rows net) g) h
call_in_row net g n state edge h found inside call = subst (λ (row : List ℕ). Contains row h)
    (sym (call_row net g))
    (contains_joined calls_of_state (states_of net g) state h
    (contains_at (states_of net g) n state found)
    (contains_joined (λ (e : Edge). called_on e.label) state.edges edge h inside call))
