-- Bad states, one state after another.
use Rattle.std.proofs.Common.{arith, ◌≡◌, ◌∙◌, ℕ, ◌+◌, ◌<◌, List, [], ◌∷◌, ◌++◌, ap, refl, subst, sym, inl, inr, length, get_or, take}
use Rattle.std.specs.Prelude.{Contains, None, Option, Some, slice_get, IsSomeAnd}
use Rattle.std.proofs.lemmas.List.Elements.{Contains-push_cases}
use Rattle.ux_base.proofs.Lists.{less_or, take_more}
use Rattle.ux_net.specs.declared.net_graph.NetGraph.{NetGraph}
use Rattle.ux_net.specs.declared.state.Edge.{Edge}
use Rattle.ux_net.specs.declared.state.State.{State}
use Rattle.ux_net.specs.Nets.{graph_at, states_in, states_of}
use Rattle.ux_net.specs.Whole.{whole_in, whole_states_of}
use Rattle.ux_net.proofs.WholeLemmas.{length_whole}
use Rattle.ux_reading_match.specs.Usable.{HasBad, IsBadState}

pub none_more : {A : Type 0} (P : A → Type 0) (xs : List A) (i : ℕ) (x : A) → i < length xs →
    x ≡ get_or xs i x → ((y : A) → Contains (take i xs) y → P y → ⊥) → (P x → ⊥) →
    (y : A) → Contains (take (i + 1) xs) y → P y → ⊥
none_more P xs i x h is known new y c p =
    let more = take_more xs i x h ∙ ap (λ (z : _). take i xs ++ z ∷ []) (sym is) in
    elim (Contains-push_cases (take i xs) x y (subst (λ (l : List _). Contains l y) more c)) [
      | inl before ↦ known y before p
      | inr e ↦ new (subst P (sym e) p)
    ]

some_and : {A : Type 0} (o : Option A) (P : A → Type 0) → IsSomeAnd o P →
    (x : A) × (o ≡ Some x) × P x
some_and None P h = absurd h
some_and (Some x) P h = (x, refl, h)

-- what is kept aside of states is no state more
pub whole_long : (net : List NetGraph) (g : ℕ) →
    length (whole_states_of net g) ≡ length (states_of net g)
whole_long net g = by (graph_at net g)
  where
    by : (o : Option NetGraph) → length (whole_in o) ≡ length (states_in o)
    by None = refl
    by (Some graph) = length_whole graph.unmet 0 graph.states

module _ (net : List NetGraph) (g n : ℕ) (edges : List Edge) where
  -- the state with these edges is bad where one of them is
  pub bad_here : IsSomeAnd (slice_get (whole_states_of net g) n) (λ (s : State). edges ≡ s.edges) →
      HasBad edges → IsBadState net g n
  bad_here h bad =
      let s = some_and (slice_get (whole_states_of net g) n) (λ (s : State). edges ≡ s.edges) h in
      record {
        state = s.0;
        found = s.1;
        bad = subst HasBad s.2 bad;
      }

  not_here : IsSomeAnd (slice_get (whole_states_of net g) n) (λ (s : State). edges ≡ s.edges) →
      (HasBad edges → ⊥) → IsBadState net g n → ⊥
  not_here h none bad =
      let s = some_and (slice_get (whole_states_of net g) n) (λ (s : State). edges ≡ s.edges) h in
      let same : s.0 ≡ bad.state = cc (s.1, bad.found) in
      none (subst HasBad (sym (s.2 ∙ ap (λ (x : State). x.edges) same)) bad.bad)

  -- no state so far, and not this one
  pub bad_in : ((m : ℕ) → m < n → IsBadState net g m → ⊥) →
      IsSomeAnd (slice_get (whole_states_of net g) n) (λ (s : State). edges ≡ s.edges) →
      (HasBad edges → ⊥) → (m : ℕ) → m < n + 1 → IsBadState net g m → ⊥
  bad_in known h none m less bad = elim (less_or m n) [
    | inl before ↦ known m before bad
    | inr after ↦
        let e : m ≡ n = omega arith in
        not_here h none (subst (λ k. IsBadState net g k) e bad)
  ]
