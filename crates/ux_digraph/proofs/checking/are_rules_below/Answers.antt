use Rattle.std.proofs.Common.{◌≡◌, sym, ◌∙◌, true, false}
use Rattle.ux_digraph.specs.Checking.{IsRuleBelow}
use Rattle.ux_digraph.proofs.CheckingLemmas.{says_true, says_false, passed_more, passed_all, one_fails}
use Rattle.ux_digraph.proofs.checking.are_rules_below.Goals as goal

pub returns-then-not-is_rule_below : goal.returns-then-not-is_rule_below
returns-then-not-is_rule_below c =
    says_false (one_fails (IsRuleBelow c.args.size) c.args.rules.now c.loop-rule.rule-index _
    c.loop-rule-test.true (λ below. let no_way : false ≡ true =
    sym c.if-not-is_rule_below.true ∙ c.is_rule_below.ensures.1 below in cc))

pub loop-rule-preserved : goal.loop-rule-preserved
loop-rule-preserved c =
    passed_more (IsRuleBelow c.args.size) c.args.rules.now c.loop-rule.rule-index _
    c.loop-rule-test.true c.loop-rule.invariant
    (c.is_rule_below.ensures.0 c.if-not-is_rule_below.false)

pub returns : goal.returns
returns c =
    says_true (passed_all (IsRuleBelow c.args.size) c.args.rules.now c.loop-rule.rule-index
    c.loop-rule-test.false c.loop-rule.invariant)
