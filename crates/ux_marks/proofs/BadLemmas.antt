-- Bad states stand in a graph, and are looked for one after another.
use Rattle.std.proofs.Common.{arith, ◌≡◌, ◌⊎◌, inl, inr, ℕ, zero, suc, ◌+◌, ◌<◌, ◌≤◌, List, [], ◌∷◌, length, refl, subst, sym}
use Rattle.std.proofs.lemmas.Option.{slice_get_within}
use Rattle.ux_base.proofs.Lists.{less_or}
use Rattle.ux_net.specs.declared.net_graph.NetGraph.{NetGraph}
use Rattle.ux_net.specs.declared.state.State.{State}
use Rattle.ux_net.specs.Nets.{states_of}
use Rattle.ux_marks.specs.Marks.{IsBadState, IsFirstBad}

-- a bad state is one of its graph
pub bad_within : (net : List NetGraph) (g n : ℕ) → IsBadState net g n → n < length (states_of net g)
bad_within net g n (inl main) =
    slice_get_within (states_of net g) n main.1.1.state main.1.1.found
bad_within net g n (inr other) = slice_get_within (states_of net g) n other.1.state other.1.found

-- nothing before a number, and not there
pub none_next : (Is : ℕ → Type 0) (k : ℕ) → ((m : ℕ) → m < k → Is m → ⊥) → (Is k → ⊥) →
    (m : ℕ) → m < k + 1 → Is m → ⊥
none_next Is k before here m less is = elim (less_or m k) [
  | inl low ↦ before m low is
  | inr high ↦ here (subst Is (let same : m ≡ k = omega (arith, less, high) in same) is)
]

no_states : (net : List NetGraph) (g : ℕ) → length net < g → states_of net g ≡ []
no_states net zero past = absurd (omega (arith, past))
no_states [] (suc g) past = refl
no_states (x ∷ net) (suc zero) past = absurd (omega (arith, past))
no_states (x ∷ net) (suc (suc g)) past = no_states net (suc g) (omega (arith, past))

-- no graph has the number 0
pub none_at_zero : (net : List NetGraph) (h m : ℕ) → h ≤ 0 → IsBadState net h m → ⊥
none_at_zero net zero m low bad = absurd (let within = bad_within net 0 m bad in omega (arith, within))
none_at_zero net (suc h) m low bad = absurd (omega (arith, low))

-- nor one behind the last
pub none_behind : (net : List NetGraph) (h m : ℕ) → length net < h → IsBadState net h m → ⊥
none_behind net h m past bad =
    let within : m < length {A = State} [] =
    subst (λ (states : List State). m < length states) (no_states net h past)
    (bad_within net h m bad) in
    omega (arith, within)

module _ (net : List NetGraph) (before : ℕ) (known : (h m : ℕ) → h ≤ before → IsBadState net h m → ⊥)
  where
    -- the first bad state of the next graph is the first of all
    pub first_here : (n : ℕ) → IsBadState net (before + 1) n →
        ((m : ℕ) → m < n → IsBadState net (before + 1) m → ⊥) → IsFirstBad net (before + 1) n
    first_here n bad first = record {
      bad = bad;
      graph = λ h m low is. known h m (omega (arith, low)) is;
      state = first;
    }

    -- the next graph has none
    pub graphs_next : ((n : ℕ) → IsBadState net (before + 1) n → ⊥) → (h m : ℕ) → h ≤ before + 1 →
        IsBadState net h m → ⊥
    graphs_next none h m low bad = elim (less_or before h) [
      | inl past ↦ none m
          (subst (λ g. IsBadState net g m)
          (let same : h ≡ before + 1 = omega (arith, low, past) in same) bad)
      | inr early ↦ known h m early bad
    ]

    -- no graph has one
    pub graphs_all : length net ≤ before → (g n : ℕ) → IsBadState net g n → ⊥
    graphs_all past g n bad = elim (less_or before g) [
      | inl behind ↦ none_behind net g n (omega (arith, past, behind)) bad
      | inr early ↦ known g n early bad
    ]
