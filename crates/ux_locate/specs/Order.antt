-- Lists in order. Inner: the crate's own functions alone speak of it.
use Rattle.std.specs.Prelude.{◌≡◌, ℕ, ◌+◌, ◌<◌, List, Some, slice_get, ◌⊎◌}
use Rattle.ux_outputs.specs.declared.span.Span.{Span}

-- each element stands before the next
abbrev pub AreInOrder : {X : Type 0} → (X → X → Type 0) → List X → Type 0
AreInOrder {X} Before xs = (k : ℕ) (a b : X) → slice_get xs k ≡ Some a →
    slice_get xs (k + 1) ≡ Some b → Before a b

-- one span stands before another: by its first token, then by its last
abbrev pub Precedes : Span → Span → Type 0
Precedes a b = (a.first < b.first) ⊎ ((a.first ≡ b.first) × (a.last < b.last))
