use Rattle.std.proofs.Common.{List, subst}
use Rattle.std.proofs.lemmas.List.{take_all}
use Rattle.ux_monitor.specs.declared.rule.Step.{Step}
use Rattle.ux_monitor.specs.declared.rule.Sign.TheVariants.{Free}
use Rattle.ux_monitor.specs.Steps.{AreByPlace}
use Rattle.ux_monitor.proofs.PlacingLemmas.{none_placed, one_placed}
use Rattle.ux_monitor.proofs.steps.by_place.Goals as goal

pub loop-step-init : goal.loop-step-init
loop-step-init c = none_placed c.args.steps.now c.in_ok-rows.rows.items c.in_ok-rows.ensures.empty

pub loop-step-preserved : goal.loop-step-preserved
loop-step-preserved c =
    one_placed c.args.steps.now c.loop-step.step-index (record { from = 0; to = 0; sign = Free }) c.loop-step.rows.items c.put_step.new.rows.items
    c.loop-step-test.true c.in_ok-put_step.ensures c.loop-step.invariant

pub returns : goal.returns
returns c =
    subst (λ (steps : List Step). AreByPlace steps c.loop-step.rows.items) (take_all c.loop-step.step-index c.args.steps.now c.loop-step-test.false)
    c.loop-step.invariant
