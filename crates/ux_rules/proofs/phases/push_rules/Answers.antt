use Rattle.std.proofs.Common.{◌∙◌}
use Rattle.ux_rules.proofs.RulesLemmas.{added_next, rule_is}
use Rattle.ux_rules.proofs.phases.push_rules.Goals as goal

pub loop-phase-preserved : goal.loop-phase-preserved
loop-phase-preserved c =
    added_next c.args.rules.now.items c.loop-phase.rules.items c.push.new.self.items
    c.args.step.now c.loop-phase.phase c.loop-phase.invariant
    (c.in_ok-push.ensures.items ∙ rule_is c.loop-phase.rules.items c.args.step.now
    c.loop-phase.phase c.next.result c.next.ensures.next)
