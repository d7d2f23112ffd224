-- What a plan owes, so that its files tell what comes of it: each of its formats gives one value or one
-- refusal, and each of its tests holds or is stopped by one cause. This file carries the crate's public
-- meaning.
use Rattle.std.specs.Prelude.{◌≡◌, ⊤, ℕ, List}
use Rattle.ux_plan.specs.declared.stop.Stop.{Stop}
use Rattle.ux_plan.specs.Plans.{Format, Plan, gives, reads, tests}

-- a file of the format is accepted as one value, or refused for one reason, or too large
pub record IsSound {R V : Type 0} (format : Format R V) : Type 0 where
  pub excluded : (file : List ℕ) (v : V) (reason : R) → format.Is file v →
      format.Refuses file reason → ⊥
  pub small : (file : List ℕ) (v : V) → format.Is file v → format.IsTooLarge file → ⊥
  pub refused_small : (file : List ℕ) (reason : R) → format.Refuses file reason →
      format.IsTooLarge file → ⊥
  pub one : (file : List ℕ) (v w : V) → format.Is file v → format.Is file w → v ≡ w
  pub one_reason : (file : List ℕ) (reason other : R) → format.Refuses file reason →
      format.Refuses file other → reason ≡ other

-- what holds together isn't stopped, and what doesn't is stopped by one cause
pub record IsSoundTest {R : Type 0} (Holds : Type 0) (Stops : Stop R → Type 0) : Type 0 where
  pub excluded : (stop : Stop R) → Holds → Stops stop → ⊥
  pub one_stop : (stop other : Stop R) → Stops stop → Stops other → stop ≡ other

-- each format of a plan is sound, and each test
abbrev pub Laws : {R A : Type 0} → Plan R A → Type 0
Laws (gives a) = ⊤
Laws (reads {V} name format rest) = IsSound format × ((v : V) → Laws (rest v))
Laws (tests Holds Stops rest) = IsSoundTest Holds Stops × Laws rest
