-- Which hits of a set a policy keeps. The manual, on Locate. Public: the crate's public contracts speak
-- of it.
use Rattle.std.specs.Prelude.{◌≡◌, ◌<◌, ◌≤◌, List, Contains}
use Rattle.ux_base.specs.declared.settings.Policy.{Policy}
use Rattle.ux_base.specs.declared.settings.Policy.TheVariants.{Shortest, Longest, All}
use Rattle.ux_outputs.specs.declared.hit.Hit.{Hit}

-- no hit of the set that begins with it is longer
abbrev pub IsLongest : (IsHit : Hit → Type 0) → Hit → Type 0
IsLongest IsHit hit =
    (other : Hit) → IsHit other → other.first ≡ hit.first → other.last ≤ hit.last

-- no hit of the set that begins with it is shorter
abbrev pub IsShortest : (IsHit : Hit → Type 0) → Hit → Type 0
IsShortest IsHit hit =
    (other : Hit) → IsHit other → other.first ≡ hit.first → hit.last ≤ other.last

-- each kept hit that begins before it also ends before it
abbrev pub IsApart : (kept : List Hit) → Hit → Type 0
IsApart kept hit =
    (other : Hit) → Contains kept other → other.first < hit.first → other.last < hit.first

-- The policy keeps the hit of the set. Which of the longest or shortest are kept depends on those kept
-- that begin before, and on no others.
abbrev pub Keeps : Policy → (IsHit : Hit → Type 0) → (kept : List Hit) → Hit → Type 0
Keeps All IsHit kept hit = IsHit hit
Keeps Longest IsHit kept hit = IsHit hit × IsLongest IsHit hit × IsApart kept hit
Keeps Shortest IsHit kept hit = IsHit hit × IsShortest IsHit hit × IsApart kept hit
