use Rattle.std.proofs.Common.{length, arith}
use Rattle.std.proofs.lemmas.Grind.{common_steps}
use Rattle.ux_digraph.proofs.MarkingLemmas.{rule_inside, look_goes_on}
use Rattle.ux_digraph.proofs.closing.apply_all.Goals as goal

pub apply-requires-clause-place : goal.apply-requires-clause-place
apply-requires-clause-place c =
    (rule_inside c.args.row.now (length c.args.marks.now.items)
    (length c.loop-rule.marks.items) c.loop-rule.rule-index _ c.requires.inside
    c.loop-rule.invariant.len c.loop-rule-test.true).0

pub apply-requires-clause-first : goal.apply-requires-clause-first
apply-requires-clause-first c =
    (rule_inside c.args.row.now (length c.args.marks.now.items)
    (length c.loop-rule.marks.items) c.loop-rule.rule-index _ c.requires.inside
    c.loop-rule.invariant.len c.loop-rule-test.true).1

pub apply-requires-clause-second : goal.apply-requires-clause-second
apply-requires-clause-second c =
    (rule_inside c.args.row.now (length c.args.marks.now.items)
    (length c.loop-rule.marks.items) c.loop-rule.rule-index _ c.requires.inside
    c.loop-rule.invariant.len c.loop-rule-test.true).2

pub loop-rule-preserved : goal.loop-rule-preserved
loop-rule-preserved c =
    look_goes_on c.args.row.now c.args.marks.now.items c.args.work.now.items
    c.loop-rule.marks.items c.apply.new.marks.items c.loop-rule.work.items c.apply.new.work.items
    c.loop-rule.rule-index _ c.loop-rule-test.true c.loop-rule.invariant c.in_ok-apply.ensures.len
    c.in_ok-apply.ensures.left c.in_ok-apply.ensures.applied

pub returns-clause-done : goal.returns-clause-done
returns-clause-done c = grind (arith, common_steps)
