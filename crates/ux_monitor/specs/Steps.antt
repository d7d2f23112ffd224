-- Steps of a rule, looked at one by one.
use Rattle.std.specs.Prelude.{◌≡◌, ℕ, ◌↔◌, List, Contains, Vec}
use Rattle.ux_subsets.specs.Rows.{row_at}
use Rattle.ux_monitor.specs.declared.rule.Sign.{Sign}
use Rattle.ux_monitor.specs.declared.rule.Sign.TheVariants.{Read}
use Rattle.ux_monitor.specs.declared.rule.Step.{Step}

-- the reading passes just the tests in the list
abbrev pub Among : (passed : List ℕ) → (test reading : ℕ) → Type 0
Among passed test reading = Contains passed test

-- the sign is a test that the reading passes
abbrev pub IsPassed : (passed : List ℕ) → Sign → Type 0
IsPassed passed sign = (test : ℕ) × (sign ≡ Read test) × Contains passed test

-- each row has the steps from the place with its number
abbrev pub AreByPlace : {Z : Type 0} → List Step → List (Vec Step Z) → Type 0
AreByPlace steps rows = (p : ℕ) (s : Step) → Contains (row_at rows p) s ↔ (Contains steps s × (s.from ≡ p))

-- the step leads to the place by the mark
abbrev pub MarksTo : (mark : Sign) → Step → ℕ → Type 0
MarksTo mark s k = (s.sign ≡ mark) × (k ≡ s.to)

-- the step leads to the place by the reading
abbrev pub ReadsTo : (passed : List ℕ) → Step → ℕ → Type 0
ReadsTo passed s k = IsPassed passed s.sign × (k ≡ s.to)

-- one step leads from p to k, by the mark
abbrev pub Marks : (steps : List Step) (mark : Sign) (p k : ℕ) → Type 0
Marks steps mark p k = (s : Step) × (Contains steps s × (s.from ≡ p)) × MarksTo mark s k

-- one step leads from p to k, by the reading
abbrev pub Reads : (steps : List Step) (passed : List ℕ) (p k : ℕ) → Type 0
Reads steps passed p k = (s : Step) × (Contains steps s × (s.from ≡ p)) × ReadsTo passed s k
