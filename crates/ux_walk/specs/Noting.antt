-- How lists grow by what is wanted. Inner, but that `ux_cmd_locate` speaks of it too.
use Rattle.std.specs.Prelude.{◌⊎◌, List, Contains}

-- what is wanted was added to what was there, and nothing else
pub record Includes {X : Type 0} (Wanted : X → Type 0) (old new : List X) : Type 0 where
  pub kept : (x : X) → Contains old x → Contains new x
  pub only : (x : X) → Contains new x → Contains old x ⊎ Wanted x
  pub has : (x : X) → Wanted x → Contains new x
