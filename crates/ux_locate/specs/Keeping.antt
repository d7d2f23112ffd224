-- What a policy keeps, start by start. Inner: the crate's own functions alone speak of it.
use Rattle.std.specs.Prelude.{◌≡◌, ◌↔◌, ℕ, ◌-◌, ◌<◌, ◌≤◌, ⊤, List, Contains, Option, Some, length, option_map, slice_get}
use Rattle.ux_base.specs.declared.settings.Policy.{Policy}
use Rattle.ux_base.specs.declared.settings.Policy.TheVariants.{Shortest, Longest, All}
use Rattle.ux_outputs.specs.declared.hit.Hit.{Hit}
use Rattle.ux_outputs.specs.declared.span.Span.{Span}

-- of two hits that begin together, by their last tokens, the policy prefers this one
abbrev pub Prefers : Policy → (last other : ℕ) → Type 0
Prefers All last other = ⊥
Prefers Longest last other = other < last
Prefers Shortest last other = last < other

-- it doesn't prefer the other one
abbrev pub IsAsGood : Policy → (last other : ℕ) → Type 0
IsAsGood All last other = ⊤
IsAsGood Longest last other = other ≤ last
IsAsGood Shortest last other = last ≤ other

-- the policy keeps no hit that begins inside another
abbrev pub IsApartKeeping : Policy → Type 0
IsApartKeeping All = ⊥
IsApartKeeping Longest = ⊤
IsApartKeeping Shortest = ⊤

-- of a set of hits that begin together, these are the ones that the policy keeps
pub record AreBest {X : Type 0} (policy : Policy) (last : X → ℕ) (Is : X → Type 0)
    (best : List X) : Type 0 where
  pub exactly : (x : X) → Contains best x
      ↔ (Is x × ((other : X) → Is other → IsAsGood policy (last x) (last other)))
  pub some : (x : X) → Is x → (y : X) × Contains best y

-- the policy keeps this one of the set
pub record IsKept {X : Type 0} (policy : Policy) (first last : X → ℕ) (Is : X → Type 0)
    (kept : List X) (x : X) : Type 0 where
  pub is : Is x
  pub best : (other : X) → Is other → first other ≡ first x →
      IsAsGood policy (last x) (last other)
  pub apart : IsApartKeeping policy → (other : X) → Contains kept other →
      first other < first x → last other < first x

-- these are the ones that it keeps, and the last of them begins last
pub record AreKept {X : Type 0} (policy : Policy) (first last : X → ℕ) (Is : X → Type 0)
    (kept : List X) : Type 0 where
  pub exactly : (x : X) → Contains kept x ↔ IsKept policy first last Is kept x
  pub latest : (x y : X) → Contains kept x → slice_get kept (length kept - 1) ≡ Some y →
      first x ≤ first y

-- the last token of the last of these, where there is one
abbrev pub reach_of : {X : Type 0} → (last : X → ℕ) → List X → Option ℕ
reach_of last kept = option_map last (slice_get kept (length kept - 1))

-- a kept hit that ends with this last token leaves out those that begin with this start
abbrev pub IsReached : Policy → (reach : Option ℕ) → (start : ℕ) → Type 0
IsReached policy reach start =
    IsApartKeeping policy × (last : ℕ) × (reach ≡ Some last) × (start ≤ last)

-- the last token of a hit
abbrev pub last_of : Hit → ℕ
last_of hit = hit.last

-- the first token of a hit
abbrev pub first_of : Hit → ℕ
first_of hit = hit.first

-- the last token of a span
abbrev pub last_in : Span → ℕ
last_in span = span.last

-- the first token of a span
abbrev pub first_in : Span → ℕ
first_in span = span.first
