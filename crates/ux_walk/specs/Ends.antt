-- The positions at which derivations from a start end. Public: the crate's public contracts speak of
-- them.
use Rattle.std.specs.Prelude.{◌↔◌, ◌<◌, ℕ, List, Contains}
use Rattle.std.specs.List.Sorted.{IsStrictlyIncreasing}
use Rattle.ux_outputs.specs.declared.event.Event.{Event}
use Rattle.ux_walk.specs.Settings.{Setting, Derives}

-- these are the positions after the start at which a derivation from it ends, in order
pub record AreEnds (setting : Setting) (start : ℕ) (ends : List ℕ) : Type 0 where
  pub exactly : (e : ℕ) → Contains ends e
      ↔ ((start < e) × (events : List Event) × Derives setting start e events)
  pub ascending : IsStrictlyIncreasing ends
