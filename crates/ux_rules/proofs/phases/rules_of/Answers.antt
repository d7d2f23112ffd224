use Rattle.std.proofs.Common.{arith, sym}
use Rattle.ux_rules.proofs.RulesLemmas.{rules_next}
use Rattle.ux_rules.proofs.phases.rules_of.Goals as goal

pub push_rules-requires-clause-from : goal.push_rules-requires-clause-from
push_rules-requires-clause-from c =
    let below = c.requires.inside.from c.step-item.result
    (c.loop-step.step-index, c.loop-step-test.true, sym c.step-item.is) in
    let room = c.requires.room in
    omega (arith, below, room)

pub push_rules-requires-clause-to : goal.push_rules-requires-clause-to
push_rules-requires-clause-to c =
    let below = c.requires.inside.to c.step-item.result
    (c.loop-step.step-index, c.loop-step-test.true, sym c.step-item.is) in
    let room = c.requires.room in
    omega (arith, below, room)

pub loop-step-preserved : goal.loop-step-preserved
loop-step-preserved c =
    rules_next c.args.steps.now c.loop-step.step-index c.step-item.result
    c.loop-step.rules.items c.push_rules.new.rules.items c.loop-step-test.true c.step-item.is
    c.loop-step.invariant c.in_ok-push_rules.ensures
