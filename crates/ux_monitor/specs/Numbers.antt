-- States of the monitor by numbers.
use Rattle.std.specs.Prelude.{◌≡◌, List, [], ◌∷◌}
use Rattle.ux_monitor.specs.declared.owing.Obligation.{Obligation}
use Rattle.ux_monitor.specs.declared.watching.Seen.{Seen}
use Rattle.ux_monitor.specs.Owing.{IsAlike}

-- the obligations say the same, one by one
abbrev pub AreAlike : (a b : List Obligation) → Type 0
AreAlike [] [] = Unit {0}
AreAlike (x ∷ a) (y ∷ b) = IsAlike x y × AreAlike a b
AreAlike a b = ⊥

-- the two states say the same
pub record IsSame (a b : Seen) : Type 0 where
  pub ifs : a.ifs.items ≡ b.ifs.items
  pub thens : a.thens.items ≡ b.thens.items
  pub owed : AreAlike a.owed.items b.owed.items
