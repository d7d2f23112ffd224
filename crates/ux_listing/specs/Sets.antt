-- How sets grow. Inner: the crate's own functions alone speak of it.
use Rattle.std.specs.Prelude.{◌≡◌, ℕ, List, ◌⊎◌, Some, slice_get, Contains}

-- each element keeps its place
abbrev pub Keeps : {A : Type 0} → (old new : List A) → Type 0
Keeps {A} old new = (i : ℕ) (x : A) → slice_get old i ≡ Some x → slice_get new i ≡ Some x

-- such elements were added behind the others, and no others
pub record Adds {A : Type 0} (Told : A → Type 0) (old new : List A) : Type 0 where
  pub only : (x : A) → Contains new x → Contains old x ⊎ Told x
  pub kept : Keeps old new

-- the element was there, or was added behind the others
pub record IsAdded {A : Type 0} (old new : List A) (x : A) : Type 0 where
  pub adds : Adds (λ y. y ≡ x) old new
  pub has : Contains new x
