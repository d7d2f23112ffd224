-- A list of readings satisfies the steps of a rule exactly where it satisfies its graph.
use Rattle.std.proofs.Common.{List}
use Rattle.std.specs.Prelude.{◌↔◌}
use Rattle.ux_grf.specs.declared.graph.Graph.{Graph}
use Rattle.ux_sentence.specs.declared.sentence.Reading.{Reading}
use Rattle.ux_rules.specs.declared.test.Test.{Test}
use Rattle.ux_rules.specs.Rules.{RuleSteps, SatisfiesRule, SatisfiesGraph, IsRuleOf}
use Rattle.ux_rules.specs.Runs.{IsPair, IsFound, Satisfies}
use Rattle.ux_rules.specs.Words.{IsPairOf}
use Rattle.ux_rules.specs.declared.step.Sign.TheVariants.{If as an_if, Then as a_then}

-- a pair of more is found where one of fewer is
found_more : (A B : List Test → List Test → Type 0) →
    ((left right : List Test) → A left right → B left right) → (before after : List Reading) →
    IsFound A before after → IsFound B before after
found_more A B more before after f = record {
  left = f.left;
  right = f.right;
  pair = more f.left f.right f.pair;
  head = f.head;
  here = f.here;
  ends_here = f.ends_here;
  matches_left = f.matches_left;
  there = f.there;
  tail = f.tail;
  begins_here = f.begins_here;
  matches_right = f.matches_right;
}

-- the same pairs are satisfied by the same lists
pub satisfies_same : (If Then If' Then' : List Test → List Test → Type 0) →
    ((left right : List Test) → If left right ↔ If' left right) →
    ((left right : List Test) → Then left right ↔ Then' left right) → (readings : List Reading) →
    Satisfies If Then readings → Satisfies If' Then' readings
satisfies_same If Then If' Then' ifs thens readings h =
    λ before after is f. found_more Then Then' (λ l r. (thens l r).0) before after
    (h before after is (found_more If' If (λ l r. (ifs l r).1) before after f))

-- what satisfies the rule satisfies the graph that draws it, and the other way round
pub rule_same : (graph : Graph) (rule : RuleSteps) → IsRuleOf graph rule →
    (readings : List Reading) → SatisfiesRule rule readings ↔ SatisfiesGraph graph readings
rule_same graph rule is readings = (
  λ h. satisfies_same (IsPair rule.steps an_if) (IsPair rule.steps a_then) (IsPairOf graph an_if)
      (IsPairOf graph a_then) is.ifs is.thens readings h,
  λ h. satisfies_same (IsPairOf graph an_if) (IsPairOf graph a_then) (IsPair rule.steps an_if)
      (IsPair rule.steps a_then) (λ l r. ((is.ifs l r).1, (is.ifs l r).0))
      (λ l r. ((is.thens l r).1, (is.thens l r).0)) readings h,
)
