-- Rules as places and steps, and which graph draws one. The manual, on ELAG. Public: the crate's
-- public contracts speak of it.
use Rattle.std.specs.Prelude.{◌≡◌, ℕ, ◌<◌, ◌≤◌, ◌↔◌, List, [], Some, Contains, get_or, slice_get}
use Rattle.ux_grf.specs.declared.graph.Graph.{Graph}
use Rattle.ux_sentence.specs.declared.sentence.Reading.{Reading}
use Rattle.ux_rules.specs.declared.test.Test.{Test}
use Rattle.ux_rules.specs.declared.step.Sign.TheVariants.{If, Then}
use Rattle.ux_rules.specs.declared.step.Step.{Step}
use Rattle.ux_rules.specs.Runs.{IsPair, Satisfies}
use Rattle.ux_rules.specs.Words.{IsPairOf}

-- what a contract sees of a rule: how many places it has, and its steps
pub record RuleSteps : Type 0 where
  pub places : ℕ
  pub steps : List Step

-- there are a start and an end, and each step leads from a place to a place
pub record AreInside (places : ℕ) (steps : List Step) : Type 0 where
  pub two : 2 ≤ places
  pub from : (s : Step) → Contains steps s → s.from < places
  pub to : (s : Step) → Contains steps s → s.to < places

-- the numbers are those of the steps that leave the place
abbrev pub IsLeaving : List Step → (place : ℕ) → (numbers : List ℕ) → Type 0
IsLeaving steps place numbers = (k : ℕ) → Contains numbers k ↔
    ((s : Step) × (slice_get steps k ≡ Some s) × (s.from ≡ place))

-- each row has the numbers of the steps that leave its place
abbrev pub AreLeaving : List Step → (rows : List (List ℕ)) → Type 0
AreLeaving steps rows = (place : ℕ) → IsLeaving steps place (get_or rows place [])

-- the list of readings satisfies the rule
abbrev pub SatisfiesRule : RuleSteps → List Reading → Type 0
SatisfiesRule rule readings = Satisfies (IsPair rule.steps If) (IsPair rule.steps Then) readings

-- the list of readings satisfies the rule that the graph draws
abbrev pub SatisfiesGraph : Graph → List Reading → Type 0
SatisfiesGraph graph readings = Satisfies (IsPairOf graph If) (IsPairOf graph Then) readings

-- the steps have exactly the pairs of the graph
pub record IsRuleOf (graph : Graph) (rule : RuleSteps) : Type 0 where
  pub ifs : (left right : List Test) →
      IsPair rule.steps If left right ↔ IsPairOf graph If left right
  pub thens : (left right : List Test) →
      IsPair rule.steps Then left right ↔ IsPairOf graph Then left right
