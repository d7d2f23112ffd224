-- A rule whose tests are told by numbers, and which readings pass them. Inner: the crate's own
-- functions alone speak of it.
use Rattle.std.specs.Prelude.{◌≡◌, ℕ, ◌+◌, ◌<◌, ◌^◌, ◌↔◌, List, [], ◌∷◌, All, Some, Contains, get_or, length, slice_get}
use Rattle.ux_sentence.specs.declared.sentence.Reading.{Reading}
use Rattle.ux_sentence.specs.declared.sentence.Sentence.{Sentence}
use Rattle.ux_rules.specs.declared.test.Test.{Test}
use Rattle.ux_rules.specs.declared.step.Sign.{Sign}
use Rattle.ux_rules.specs.declared.step.Sign.TheVariants.{Free, If, Then, Read}
use Rattle.ux_rules.specs.declared.step.Step.{Step}
use Rattle.ux_rules.specs.Runs.{IsPair, Satisfies}
use Rattle.ux_rules.specs.Tests.{Passes}
use Rattle.ux_monitor.specs.declared.rule.Sign as numbered
use Rattle.ux_monitor.specs.declared.rule.Sign.TheVariants as sign
use Rattle.ux_monitor.specs.declared.rule.Step as numbered_step
use Rattle.ux_monitor.specs.Monitors.{kind_at, tests_of}
use Rattle.ux_monitor.specs.Rules as monitored
use Rattle.ux_elag.specs.Left.{Keeps}
use Rattle.ux_elag.specs.Numbers.{reading_at}

-- the sign, with a number in place of its test
abbrev pub numbered_sign : (number : ℕ) → Sign → numbered.Sign
numbered_sign number Free = sign.Free
numbered_sign number If = sign.If
numbered_sign number Then = sign.Then
numbered_sign number (Read test) = sign.Read number

abbrev pub numbered_one : (number : ℕ) → Step → numbered_step.Step
numbered_one number step = record {
  from = step.from;
  to = step.to;
  sign = numbered_sign number step.sign;
}

-- the steps, each test with the number of its step, where they count from this number
abbrev pub numbered_steps : (number : ℕ) → List Step → List numbered_step.Step
numbered_steps number [] = []
numbered_steps number (step ∷ steps) = numbered_one number step ∷ numbered_steps (number + 1) steps

-- the monitor is that of the rule with these steps
pub record IsMonitorOf (steps : List Step) (monitor : monitored.Rule) : Type 0 where
  pub steps_are : monitor.steps ≡ numbered_steps 0 steps
  pub ends_are : monitor.ends ≡ 1 ∷ []
  pub fit : length steps < 2 ^ 32

-- the rule with these steps leaves the new sentence of the old one
abbrev pub LeavesOf : List Step → (old new : Sentence) → Type 0
LeavesOf steps old new = Keeps (Satisfies (IsPair steps If) (IsPair steps Then)) old new

-- the step with the number has the test
abbrev pub IsTestAt : List Step → (number : ℕ) → Test → Type 0
IsTestAt steps number test =
    (step : Step) × (slice_get steps number ≡ Some step) × (step.sign ≡ Read test)

-- the sign is a test that the reading passes
abbrev pub IsPassedBy : Reading → Sign → Type 0
IsPassedBy reading (Read test) = Passes test reading
IsPassedBy reading other = ⊥

-- the reading passes the test with the number
abbrev pub PassesTest : List Step → (number : ℕ) → Reading → Type 0
PassesTest steps number reading =
    (step : Step) × (slice_get steps number ≡ Some step) × IsPassedBy reading step.sign

-- the tests are those that the reading passes
abbrev pub ArePassed : List Step → Reading → (tests : List ℕ) → Type 0
ArePassed steps reading tests = (test : ℕ) → Contains tests test ↔ PassesTest steps test reading

-- the tests in the row with the number
abbrev pub tests_at : List (List ℕ) → ℕ → List ℕ
tests_at table number = get_or table number []

-- the kind with the number is that of readings which pass just the tests that this one passes
pub record IsKindFor (steps : List Step) (reading : Reading) (kinds : List (List ℕ)) (number : ℕ) :
    Type 0 where
  pub inside : number < length kinds
  pub passed : ArePassed steps reading (kind_at kinds number)

-- the kinds with these numbers are those of the first so many readings, as they are said
pub record AreKinds (steps : List Step) (IsSaid : ℕ → Reading → Type 0) (count : ℕ)
    (kinds : List (List ℕ)) (numbers : List ℕ) : Type 0 where
  pub counted : length numbers ≡ count
  pub inside : All (λ number. number < length kinds) numbers
  pub rows : (place : ℕ) (reading : Reading) → place < count → IsSaid place reading →
      ArePassed steps reading (tests_at (tests_of kinds numbers) place)

-- the rows are those of the readings: each has the tests that its reading passes
pub record IsTable (steps : List Step) (readings : List Reading) (table : List (List ℕ)) :
    Type 0 where
  pub count : length table ≡ length readings
  pub rows : (number test : ℕ) → number < length readings →
      Contains (tests_at table number) test ↔ PassesTest steps test (reading_at readings number)
