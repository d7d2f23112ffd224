-- The first position at which a derivation from a start ends. Public: the crate's public contracts
-- speak of it.
use Rattle.std.specs.Prelude.{◌↔◌, ◌<◌, ◌≤◌, ℕ, List, Contains}
use Rattle.std.specs.List.Sorted.{IsStrictlyIncreasing}
use Rattle.ux_outputs.specs.declared.event.Event.{Event}
use Rattle.ux_walk.specs.Settings.{Setting, Derives}

-- the position is after the start, and a derivation from there ends at it
abbrev pub IsEnd : Setting → (start end : ℕ) → Type 0
IsEnd setting start end = (start < end) × (events : List Event) × Derives setting start end events

-- this is the first such position alone, if there is any
pub record IsFirstEnd (setting : Setting) (start : ℕ) (ends : List ℕ) : Type 0 where
  pub exactly : (e : ℕ) → Contains ends e
      ↔ (IsEnd setting start e × ((other : ℕ) → IsEnd setting start other → e ≤ other))
  pub some : (e : ℕ) → IsEnd setting start e → (first : ℕ) × Contains ends first
  pub ascending : IsStrictlyIncreasing ends
