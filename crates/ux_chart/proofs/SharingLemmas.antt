-- A net of which each edge was looked at has no label that asks for spaces.
use Rattle.std.proofs.Common.{arith, ◌≡◌, ℕ, zero, suc, ◌+◌, ◌<◌, ◌≤◌, List, [], inl, inr, refl, sym, ap, subst, ◌∙◌, length, get_or}
use Rattle.std.specs.Prelude.{IsSomeAnd, Option, Some, slice_get}
use Rattle.std.proofs.lemmas.Option.{same_Some, slice_get_within, slice_get_past, slice_get-get_or}
use Rattle.ux_net.specs.declared.net_graph.NetGraph.{NetGraph}
use Rattle.ux_net.specs.declared.state.Edge.{Edge}
use Rattle.ux_net.specs.declared.state.State.{State}
use Rattle.ux_net.specs.Nets.{states_in, states_of}
use Rattle.ux_base.proofs.Lists.{less_or}
use Rattle.ux_chart.specs.Alike.{AreUnspaced, IsUnspaced, IsUnspacedGraph, IsUnspacedNet}

-- the first edges are unspaced
abbrev pub EdgesBelow : List Edge → (bound : ℕ) → Type 0
EdgesBelow edges bound = (n : ℕ) (edge : Edge) → n < bound → slice_get edges n ≡ Some edge →
    IsUnspaced edge.label

pub no_edge : (edges : List Edge) → EdgesBelow edges 0
no_edge edges = λ n edge low. absurd (omega (arith, low))

pub edge_more : (edges : List Edge) (i : ℕ) (item : Edge) → i < length edges →
    item ≡ get_or edges i item → IsUnspaced item.label → EdgesBelow edges i →
    EdgesBelow edges (i + 1)
edge_more edges i item inside is unspaced before n edge low found = elim (less_or n i) [
  | inl l ↦ before n edge l found
  | inr m ↦
      let e : n ≡ i = omega (arith, m, low) in
      let here : slice_get edges i ≡ Some item =
      slice_get-get_or edges i item inside ∙ ap Some (sym is) in
      let same = same_Some item edge (sym here ∙ (ap (λ k. slice_get edges k) (sym e) ∙ found)) in
      subst (λ (x : Edge). IsUnspaced x.label) same unspaced
]

pub edges_all : (edges : List Edge) (i : ℕ) → length edges ≤ i → EdgesBelow edges i →
    AreUnspaced edges
edges_all edges i all before edge (n, inside, is) =
    before n edge (omega (arith, all, inside)) (slice_get-get_or edges n edge inside ∙ ap Some is)

module _ (net : List NetGraph) where
  -- the first states of the graph are
  abbrev pub StatesBelow : (g bound : ℕ) → Type 0
  StatesBelow g bound = (n : ℕ) (state : State) → n < bound →
      slice_get (states_of net g) n ≡ Some state → AreUnspaced state.edges

  pub no_state : (g : ℕ) → StatesBelow g 0
  no_state g = λ n state low. absurd (omega (arith, low))

  pub state_more : (g i : ℕ) (edges : List Edge) →
      IsSomeAnd (slice_get (states_of net g) i) (λ state. edges ≡ state.edges) →
      AreUnspaced edges → StatesBelow g i → StatesBelow g (i + 1)
  state_more g i edges read unspaced before n state low found = elim (less_or n i) [
    | inl l ↦ before n state l found
    | inr m ↦
        let e : n ≡ i = omega (arith, m, low) in
        let here : slice_get (states_of net g) i ≡ Some state =
        ap (λ k. slice_get (states_of net g) k) (sym e) ∙ found in
        let same = subst (λ (o : Option State). IsSomeAnd o (λ s. edges ≡ s.edges)) here read in
        subst AreUnspaced same unspaced
  ]

  pub states_all : (g i : ℕ) → length (states_of net g) ≤ i → StatesBelow g i →
      IsUnspacedGraph net g
  states_all g i all before = λ n state found.
      let inside = slice_get_within (states_of net g) n state found in
      before n state (omega (arith, all, inside)) found

  -- a graph that isn't there has no states
  no_graph : (g : ℕ) → states_of net g ≡ [] → IsUnspacedGraph net g
  no_graph g none = λ n state found.
      let inside = slice_get_within [] n state
      (subst (λ (l : List State). slice_get l n ≡ Some state) none found) in
      absurd (omega (arith, inside))

  -- the first graphs are
  abbrev pub GraphsUpTo : (bound : ℕ) → Type 0
  GraphsUpTo bound = (g : ℕ) → g ≤ bound → IsUnspacedGraph net g

  pub first_graphs : GraphsUpTo 0
  first_graphs zero low = no_graph 0 refl
  first_graphs (suc g) low = absurd (omega (arith, low))

  pub graph_more : (i : ℕ) → IsUnspacedGraph net (i + 1) → GraphsUpTo i → GraphsUpTo (i + 1)
  graph_more i is before g low = elim (less_or i g) [
    | inl m ↦
        let e : i + 1 ≡ g = omega (arith, m, low) in
        subst (IsUnspacedGraph net) e is
    | inr l ↦ before g l
  ]

  pub graphs_all : (i : ℕ) → length net ≤ i → GraphsUpTo i → IsUnspacedNet net
  graphs_all i all before g = elim (less_or i g) [
    | inl past ↦ beyond g past
    | inr low ↦ before g low
  ]
    where
      beyond : (g : ℕ) → i < g → IsUnspacedGraph net g
      beyond zero past = absurd (omega (arith, past))
      beyond (suc k) past = no_graph (suc k)
          (ap states_in (slice_get_past net k (omega (arith, past, all))))
