-- Where the copies begin that stand in place of edges: behind each other, in the order of the edges.
use Rattle.std.proofs.Common.{arith, ◌≡◌, ℕ, zero, suc, ◌+◌, ◌≤◌, ◌⊎◌, inl, inr, List, [], ◌∷◌, ◌++◌, Some, refl, sym, subst, sum_by, slice_get}
use Rattle.std.specs.Prelude.{None, Contains}
use Rattle.std.proofs.lemmas.List.Sums.{sum_by-cons}
use Rattle.ux_base.proofs.Lists.{nothing_in, first_or_later, contains_first, contains_later}
use Rattle.ux_net.specs.declared.state.Edge.{Edge}
use Rattle.ux_net.specs.declared.state.State.{State}
use Rattle.ux_flatten.specs.Copies.{edges_of}

-- how many states stand in place of each edge
module _ (room : Edge → ℕ) where
  -- the edge stands in the list, and what stands in place of it begins at state m, where that of
  -- the whole list begins at `next`
  pub data At : (next : ℕ) → List Edge → Edge → (m : ℕ) → Type 0 where
    here : {next : ℕ} {edge : Edge} {edges : List Edge} → At next (edge ∷ edges) edge next
    there : {next m : ℕ} {other edge : Edge} {edges : List Edge} →
        At (next + room other) edges edge m → At next (other ∷ edges) edge m

  pub at_contains : {next m : ℕ} {edges : List Edge} {edge : Edge} → At next edges edge m →
      Contains edges edge
  at_contains (here {edge = edge} {edges = edges}) = contains_first edge edges
  at_contains (there {other = other} {edge = edge} {edges = edges} at) =
      contains_later other edges edge (at_contains at)

  pub contains_at : (next : ℕ) (edges : List Edge) (edge : Edge) → Contains edges edge →
      (m : ℕ) × At next edges edge m
  contains_at next [] edge within = absurd (nothing_in within)
  contains_at next (other ∷ edges) edge within = elim (first_or_later other edges edge within) [
    | inl same ↦ (next, subst (λ e. At next (other ∷ edges) e next) same here)
    | inr later ↦
        let at = contains_at (next + room other) edges edge later in
        (at.0, there at.1)
  ]

  -- it stands between where the whole list begins and ends
  pub at_from : {next m : ℕ} {edges : List Edge} {edge : Edge} → At next edges edge m → next ≤ m
  at_from here = omega arith
  at_from (there at) = let from = at_from at in omega (arith, from)

  pub at_to : {next m : ℕ} {edges : List Edge} {edge : Edge} → At next edges edge m →
      m + room edge ≤ next + sum_by room edges
  at_to (here {edge = edge} {edges = edges}) = omega (arith, sum_by-cons room edge edges)
  at_to (there {other = other} {edges = edges} at) =
      omega (arith, sum_by-cons room other edges, at_to at)

  pub at_left : {next m : ℕ} {edges : List Edge} {edge : Edge} → At next edges edge m →
      (behind : List Edge) → At next (edges ++ behind) edge m
  at_left here behind = here
  at_left (there at) behind = there (at_left at behind)

  pub at_right : (front : List Edge) {next n m : ℕ} {edges : List Edge} {edge : Edge} →
      At n edges edge m → n ≡ next + sum_by room front → At next (front ++ edges) edge m
  at_right [] {m = m} {edges = edges} {edge = edge} at is =
      subst (λ n. At n edges edge m) (omega (arith, is)) at
  at_right (other ∷ front) at is =
      there (at_right front at (omega (arith, is, sum_by-cons room other front)))

  -- in one of two lists
  pub at_cases : (front : List Edge) {next m : ℕ} {edges : List Edge} {edge : Edge} →
      At next (front ++ edges) edge m →
      At next front edge m ⊎ At (next + sum_by room front) edges edge m
  at_cases [] {next = next} {m = m} {edges = edges} {edge = edge} at =
      inr (subst (λ n. At n edges edge m) (omega arith) at)
  at_cases (other ∷ front) here = inl here
  at_cases (other ∷ front) {next = next} {m = m} {edges = edges} {edge = edge} (there at) =
      elim (at_cases front at) [
        | inl before ↦ inl (there before)
        | inr behind ↦ inr (subst (λ n. At n edges edge m)
            (omega (arith, sum_by-cons room other front)) behind)
      ]

  -- where what stands in place of a state's edges begins
  abbrev pub next_at : (next : ℕ) → List State → (a : ℕ) → ℕ
  next_at next [] a = next
  next_at next (state ∷ states) zero = next
  next_at next (state ∷ states) (suc a) = next_at (next + sum_by room state.edges) states a

  -- an edge of a state stands among the edges of all
  pub at_state : (next : ℕ) (states : List State) (a : ℕ) (state : State) {m : ℕ} {edge : Edge} →
      slice_get states a ≡ Some state → At (next_at next states a) state.edges edge m →
      At next (edges_of states) edge m
  at_state next [] a state found at =
      let none : None ≡ Some state = found in
      cc
  at_state next (first ∷ states) zero state {m = m} {edge = edge} found at =
      let same : first ≡ state = cc in
      at_left (subst (λ (s : State). At next s.edges edge m) (sym same) at) (edges_of states)
  at_state next (first ∷ states) (suc a) state found at =
      at_right first.edges (at_state (next + sum_by room first.edges) states a state found at) refl

  -- an edge of a state, and where it stands
  pub record OfState (next : ℕ) (states : List State) (edge : Edge) (m : ℕ) : Type 0 where
    pub number : ℕ
    pub state : State
    pub found : slice_get states number ≡ Some state
    pub at : At (next_at next states number) state.edges edge m

  pub of_state : (next : ℕ) (states : List State) {m : ℕ} {edge : Edge} →
      At next (edges_of states) edge m → OfState next states edge m
  of_state next [] at = absurd (nothing_in (at_contains at))
  of_state next (first ∷ states) {m = m} {edge = edge} at = elim (at_cases first.edges at) [
    | inl here_at ↦ record { number = 0; state = first; found = refl; at = here_at }
    | inr later ↦
        let it = of_state (next + sum_by room first.edges) states later in
        record { number = suc it.number; state = it.state; found = it.found; at = it.at }
  ]
