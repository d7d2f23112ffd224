-- The monitor of a rule, seen as the rule and the kinds of readings that it knows.
use Rattle.std.specs.Prelude.{◌≡◌, ℕ, ◌<◌, ◌↔◌, List, [], ◌++◌, Contains, get_or, length, map}
use Rattle.ux_monitor.specs.declared.rule.Step.{Step}
use Rattle.ux_monitor.specs.declared.watching.Seen.{Seen}
use Rattle.ux_monitor.specs.Rules.{Rule, PassesAt}
use Rattle.ux_monitor.specs.Watches.{Watches}

-- the rule with these steps and ends
abbrev pub rule_of : (steps : List Step) → (ends : List ℕ) → Rule
rule_of steps ends = record { steps = steps; ends = ends }

-- a monitor: its rule, and for each kind of readings the tests that a reading of this kind passes
pub record Monitored : Type 0 where
  pub rule : Rule
  pub kinds : List (List ℕ)

-- the monitor of the rule with these steps and ends, which knows these kinds
abbrev pub watched : (steps : List Step) → (ends : List ℕ) → (kinds : List (List ℕ)) → Monitored
watched steps ends kinds = record { rule = rule_of steps ends; kinds = kinds }

-- the tests of the kind with the number, none where there is no such kind
abbrev pub kind_at : (kinds : List (List ℕ)) → ℕ → List ℕ
kind_at kinds number = get_or kinds number []

-- for each reading, which has a kind, its tests
abbrev pub tests_of : (kinds : List (List ℕ)) → (of : List ℕ) → List (List ℕ)
tests_of kinds of = map (kind_at kinds) of

-- the kind with the number has exactly these tests
pub record IsKindOf (kinds : List (List ℕ)) (tests : List ℕ) (number : ℕ) : Type 0 where
  pub inside : number < length kinds
  pub exact : (test : ℕ) → Contains (kind_at kinds number) test ↔ Contains tests test

-- kinds may have come, behind those that were there
abbrev pub AreMore : (old new : List (List ℕ)) → Type 0
AreMore old new = (more : List (List ℕ)) × (new ≡ old ++ more)

-- this was seen of the rule after the list of readings, which the table tells
abbrev pub WatchesBy : Rule → (table : List (List ℕ)) → Seen → (before : List ℕ) → Type 0
WatchesBy rule table seen before = Watches rule.steps rule.ends (PassesAt table) seen before
