-- Bad states, one state after another.
use Rattle.std.proofs.Common.{arith, ◌≡◌, ◌∙◌, ℕ, ◌+◌, ◌<◌, List, ap, subst, sym, inl, inr}
use Rattle.std.specs.Prelude.{Contains, slice_get, IsSomeAnd}
use Rattle.ux_base.proofs.Lists.{less_or}
use Rattle.ux_net.specs.declared.net_graph.NetGraph.{NetGraph}
use Rattle.ux_net.specs.declared.state.Edge.{Edge}
use Rattle.ux_net.specs.declared.state.State.{State}
use Rattle.ux_net.specs.Nets.{states_of}
use Rattle.ux_inflect.specs.Refusing.{IsBadEdge, IsBadState}
use Rattle.ux_inflect.proofs.ListLemmas.{some_and}

abbrev pub HasBad : List Edge → Type 0
HasBad edges = (edge : Edge) × Contains edges edge × IsBadEdge edge

module _ (net : List NetGraph) (g n : ℕ) (edges : List Edge) where
  -- the state with these edges is bad where one of them is
  pub bad_here : IsSomeAnd (slice_get (states_of net g) n) (λ (s : State). edges ≡ s.edges) →
      HasBad edges → IsBadState net g n
  bad_here h bad =
      let s = some_and (slice_get (states_of net g) n) (λ (s : State). edges ≡ s.edges) h in
      record {
        state = s.0;
        found = s.1;
        edge = bad.0;
        inside = subst (λ (l : List Edge). Contains l bad.0) s.2 bad.1;
        bad = bad.2;
      }

  not_here : IsSomeAnd (slice_get (states_of net g) n) (λ (s : State). edges ≡ s.edges) →
      (HasBad edges → ⊥) → IsBadState net g n → ⊥
  not_here h none bad =
      let s = some_and (slice_get (states_of net g) n) (λ (s : State). edges ≡ s.edges) h in
      let same : s.0 ≡ bad.state = cc (s.1, bad.found) in
      none (
        bad.edge,
        subst (λ (l : List Edge). Contains l bad.edge)
            (sym (s.2 ∙ ap (λ (x : State). x.edges) same)) bad.inside,
        bad.bad,
      )

  -- no state so far, and not this one
  pub bad_in : ((m : ℕ) → m < n → IsBadState net g m → ⊥) →
      IsSomeAnd (slice_get (states_of net g) n) (λ (s : State). edges ≡ s.edges) →
      (HasBad edges → ⊥) → (m : ℕ) → m < n + 1 → IsBadState net g m → ⊥
  bad_in known h none m less bad = elim (less_or m n) [
    | inl before ↦ known m before bad
    | inr after ↦
        let e : m ≡ n = omega arith in
        not_here h none (subst (λ k. IsBadState net g k) e bad)
  ]
