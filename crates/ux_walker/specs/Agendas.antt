-- Agendas: the positions at which walks wait, each with its front. Inner: the crate's own functions
-- alone speak of it.
use Rattle.std.specs.Prelude.{◌≡◌, ◌<◌, ◌≤◌, ℕ, List, [], ◌∷◌, Contains, Some, drop, length, slice_get, take}
use Rattle.ux_walker.specs.declared.agenda.Visit.{Visit}

-- at the position the front waits
abbrev pub visit_of : (at front : ℕ) → Visit
visit_of at front = record { at = at; front = front }

-- no position stands twice, and the least is the last
abbrev pub IsFalling : List Visit → Type 0
IsFalling [] = Unit {0}
IsFalling (visit ∷ later) =
    ((other : Visit) → Contains later other → other.at < visit.at) × IsFalling later

-- no front waits at the position
abbrev pub IsFree : List Visit → (at : ℕ) → Type 0
IsFree visits at = (visit : Visit) → Contains visits visit → visit.at ≡ at → ⊥

-- the front waits at the position, and no other
pub record Waits (visits : List Visit) (at front : ℕ) : Type 0 where
  pub there : Contains visits (visit_of at front)
  pub only : (visit : Visit) → Contains visits visit → visit.at ≡ at → visit ≡ visit_of at front

-- the visit at a place is that of the position
abbrev pub IsAt : List Visit → (place at : ℕ) → Type 0
IsAt visits place at = (visit : Visit) × (slice_get visits place ≡ Some visit) × (visit.at ≡ at)

-- the visits after the position stand before the place, and the others from it on
pub record IsPlaceOf (visits : List Visit) (at place : ℕ) : Type 0 where
  pub within : place ≤ length visits
  pub after : (visit : Visit) → Contains (take place visits) visit → at < visit.at
  pub rest : (visit : Visit) → Contains (drop place visits) visit → visit.at ≤ at
