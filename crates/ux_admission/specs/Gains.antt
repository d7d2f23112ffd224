-- Lists that grow by what is so. Inner: the crates that make nets alone speak of it.
use Rattle.std.specs.Prelude.{◌≡◌, Some, slice_get, ℕ, ◌<◌, ◌⊎◌, ◌↔◌, List, Contains}

-- the list has what it had, and what is so
abbrev pub Gains : {A : Type 0} → List A → List A → (A → Type 0) → Type 0
Gains {A} before after IsSo = (x : A) → Contains after x ↔ (Contains before x ⊎ IsSo x)

-- it is so for a number below this one
abbrev pub SoBelow : {A : Type 0} → ℕ → (ℕ → A → Type 0) → A → Type 0
SoBelow count IsSo x = (k : ℕ) × (k < count) × IsSo k x

-- it is so for the element at this place
abbrev pub SoAt : {A B : Type 0} → List B → (B → A → Type 0) → ℕ → A → Type 0
SoAt {B = B} xs IsSo k x = (y : B) × (slice_get xs k ≡ Some y) × IsSo y x

-- it is so for one of the elements
abbrev pub SoOfOne : {A B : Type 0} → List B → (B → A → Type 0) → A → Type 0
SoOfOne {B = B} xs IsSo x = (y : B) × Contains xs y × IsSo y x
