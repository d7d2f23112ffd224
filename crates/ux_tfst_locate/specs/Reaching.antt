-- Which positions of sentences side by side lie on a path. Inner: the crate's own functions alone
-- speak of it.
use Rattle.std.specs.Prelude.{◌≡◌, ℕ, ◌<◌, Bool, false, List, Contains, get_or}
use Rattle.ux_tfst_locate.specs.declared.lattice.Arc.{Arc}
use Rattle.ux_tfst_locate.specs.declared.lattice.Place.{Place}
use Rattle.ux_tfst_locate.specs.Lattices.{IsAt, Rows, row_at}

-- the position is marked
abbrev pub is_marked : List Bool → ℕ → Bool
is_marked marks i = get_or marks i false

-- arcs lead to later positions, below this bound
abbrev pub AreAhead : (bound : ℕ) → Rows → Type 0
AreAhead bound rows =
    (i : ℕ) (arc : Arc) → Contains (row_at rows i) arc → (i < arc.to) × (arc.to < bound)

-- a first state, a last state of its sentence
abbrev pub IsFirst : Place → Type 0
IsFirst place = place.state ≡ 0

abbrev pub IsLast : Place → Type 0
IsLast place = place.state ≡ place.last

-- a state that is so stands at the position
abbrev pub IsSoAt : (Place → Type 0) → List Place → ℕ → Type 0
IsSoAt IsSo places i = (place : Place) × IsAt places i place × IsSo place

module _ (places : List Place) (rows : Rows) where
  -- arcs lead from a first state to the position
  pub data IsReached : ℕ → Type 0 where
    begins : {i : ℕ} → IsSoAt IsFirst places i → IsReached i
    goes_on : {i : ℕ} (arc : Arc) → Contains (row_at rows i) arc → IsReached i → IsReached arc.to

  -- arcs lead from the position to a last state
  pub data IsLeading : ℕ → Type 0 where
    ends : {i : ℕ} → IsSoAt IsLast places i → IsLeading i
    leads_on : {i : ℕ} (arc : Arc) → Contains (row_at rows i) arc → IsLeading arc.to → IsLeading i
