-- The first place of the first graph of which something is so. Public: the contract of
-- `first_bad_context` speaks of it.
use Rattle.std.specs.Prelude.{◌≡◌, ℕ, ◌<◌, ◌≤◌, ◌⊎◌, List, Option, Some, None, Contains, get_or, Bool}
use Rattle.ux_admission.specs.declared.spot.Spot.{Spot}
use Rattle.ux_admission.specs.declared.way.Way.{Way}
use Rattle.ux_boxes.specs.Refusing.{IsFirst}
use Rattle.ux_admission.specs.Ways.{IsOpen, entered_by, opened_by}

-- no spot after the other, by graph and then by node
abbrev pub IsNotAfter : Spot → Spot → Type 0
IsNotAfter spot other =
    (spot.graph < other.graph) ⊎ ((spot.graph ≡ other.graph) × (spot.node ≤ other.node))

-- one of the spots is after none of them, or there is none
abbrev pub IsLeast : List Spot → Option Spot → Type 0
IsLeast spots None = (spot : Spot) → Contains spots spot → ⊥
IsLeast spots (Some spot) =
    Contains spots spot × ((other : Spot) → Contains spots other → IsNotAfter spot other)

-- the first place of which it is so, or there is none
abbrev pub FindsFirst : ((g node : ℕ) → Type 0) → Option Spot → Type 0
FindsFirst IsSo None = (g node : ℕ) → IsSo g node → ⊥
FindsFirst IsSo (Some spot) = IsFirst IsSo spot.graph spot.node

-- the edge of a way that may take nothing
abbrev pub IsFreePair : List Bool → Way → ℕ × ℕ → Type 0
IsFreePair marks way pair =
    IsOpen marks way.passage × (◌≡◌ {A = ℕ × ℕ} (way.from, way.to) pair)

-- the edge of a way that enters a unit
abbrev pub IsEntryPair : Way → ℕ × ℕ → Type 0
IsEntryPair way pair =
    (start : ℕ) × (entered_by way.passage way.to ≡ Some start) × (◌≡◌ {A = ℕ × ℕ} (way.from, start) pair)

-- a node of the way's graph
abbrev pub spot_of : Way → (node : ℕ) → Spot
spot_of way node = record { graph = way.graph; node = node }

-- the place into which the context opens that the way leads over
abbrev pub IsOpeningSpot : Way → Spot → Type 0
IsOpeningSpot way spot =
    (node : ℕ) × (opened_by way.passage ≡ Some node) × (spot_of way node ≡ spot)

-- a node on the way: its source, or the place into which the context opens that it leads over
abbrev pub IsSpotOn : Way → Spot → Type 0
IsSpotOn way spot = (spot_of way way.source ≡ spot) ⊎ IsOpeningSpot way spot

-- a node on a way that may take nothing, and whose ends have one number
abbrev pub IsLoopSpot : List Bool → List ℕ → Way → Spot → Type 0
IsLoopSpot marks numbers way spot =
    IsOpen marks way.passage
    × (get_or numbers way.from 0 ≡ get_or numbers way.to 0)
    × IsSpotOn way spot

-- the target of a way that enters a unit whose first place has the number of its source
abbrev pub IsEntrySpot : List ℕ → Way → Spot → Type 0
IsEntrySpot numbers way spot =
    (start : ℕ) × (entered_by way.passage way.to ≡ Some start)
    × (get_or numbers way.from 0 ≡ get_or numbers start 0)
    × (spot_of way way.target ≡ spot)
