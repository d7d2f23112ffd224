-- States that stand twice in a list. Public: the crate's public contracts speak of it.
use Rattle.std.specs.Prelude.{◌≡◌, ℕ, ◌<◌, List, Option, Some, None, length, slice_get}
use Rattle.ux_dawg.specs.declared.state.State.{State}

-- an earlier state equals the one of this number
pub record IsRepeated (states : List State) (number : ℕ) : Type 0 where
  pub within : number < length states
  pub earlier : ℕ
  pub before : earlier < number
  pub same : slice_get states earlier ≡ slice_get states number

-- the first state that is repeated, and none where no state is
abbrev pub IsFirstRepeated : List State → Option ℕ → Type 0
IsFirstRepeated states None = (number : ℕ) → IsRepeated states number → ⊥
IsFirstRepeated states (Some first) =
    IsRepeated states first × ((number : ℕ) → number < first → IsRepeated states number → ⊥)
