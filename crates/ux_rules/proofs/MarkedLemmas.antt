-- Searches that go on while nothing is found.
use Rattle.std.proofs.Common.{arith, ◌≡◌, ℕ, ◌+◌, ◌*◌, ◌<◌, ◌≤◌, inl, inr, Bool, true, subst, List, length, Some, None}
use Rattle.ux_digraph.specs.Rules.{is_marked_at}
use Rattle.ux_base.proofs.Lists.{same_or}
use Rattle.ux_grf.specs.declared.graph.Graph.{Graph}
use Rattle.ux_rules.specs.Finding.{FindsFirst, IsBadIn, IsBadByPhases}

-- the box is bad in this phase, in which it is reached
abbrev pub IsBadAt : Graph → List Bool → (node phase : ℕ) → Type 0
IsBadAt graph found node phase =
    (is_marked_at found (node * 9 + phase) ≡ true) × IsBadIn graph node phase

-- of one number more it isn't so
pub none_next : (IsSo : ℕ → Type 0) (n : ℕ) → ((m : ℕ) → m < n → IsSo m → ⊥) → (IsSo n → ⊥) →
    (m : ℕ) → m < n + 1 → IsSo m → ⊥
none_next IsSo n before here m less h = elim (same_or m n) [
  | inl e ↦ here (subst IsSo e h)
  | inr other ↦ before m (omega (arith, less, other)) h
]

-- the first that is found
pub finds_some : (graph : Graph) (IsSo : ℕ → Type 0) (node : ℕ) → node < length graph.boxes →
    ((m : ℕ) → m < node → IsSo m → ⊥) → IsSo node → FindsFirst graph IsSo (Some node)
finds_some graph IsSo node inside before here = (inside, record { here = here; before = before })

-- nothing is found
pub finds_none : (graph : Graph) (IsSo : ℕ → Type 0) (n : ℕ) → length graph.boxes ≤ n →
    ((m : ℕ) → m < n → IsSo m → ⊥) → FindsFirst graph IsSo None
finds_none graph IsSo n past before = λ node inside. before node (omega (arith, inside, past))

pub bad_in_none : (graph : Graph) (found : List Bool) (node n : ℕ) → 9 ≤ n →
    ((k : ℕ) → k < n → IsBadAt graph found node k → ⊥) → IsBadByPhases graph found node → ⊥
bad_in_none graph found node n past before (phase, below, marked, bad) =
    before phase (omega (arith, below, past)) (marked, bad)
