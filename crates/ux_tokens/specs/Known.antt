-- Numbers that are known without the table of different texts: for inner functions alone.
use Rattle.std.specs.Prelude.{◌≡◌, ℕ, ◌<◌, List, All, Some, slice_get}
use Rattle.std.specs.Int.{bytes_high_first}
use Rattle.ux_tokens.specs.Numbers.{IsSpaceNumber}
use Rattle.ux_tokens.specs.declared.known.Known.{Known}
use Rattle.ux_tokens.specs.declared.known.Slot.{Slot}

-- the slot is empty, or its number is the place of its text
abbrev pub HasNumber : List (List ℕ) → Slot → Type 0
HasNumber texts slot =
    0 < slot.len → slice_get texts slot.number ≡ Some (bytes_high_first slot.len slot.bytes)

-- what is known is right of these texts
pub record AreKnown (texts : List (List ℕ)) (known : Known) : Type 0 where
  pub space : IsSpaceNumber texts known.space
  pub short : All (HasNumber texts) known.slots.items
