use Rattle.std.proofs.Common.{sym, ◌∙◌}
use Rattle.std.specs.Prelude.{Some}
use Rattle.ux_image_look_ups.proofs.StepLemmas.{own-steps}
use Rattle.ux_image_look_ups.proofs.steps.stepped.Goals as goal

pub returns-in_err-step : goal.returns-in_err-step
returns-in_err-step c =
    own-steps c.args.states.now c.args.taken.now c.args.state c.from_residual-in_err-step.result
    c.step.result c.in_ok-state.field-0 c.in_ok-state.was (c.requires.taken c.requires.alone)
    (c.from_residual-in_err-step.ensures ∙ sym c.in_err-step.was) c.step.ensures

pub returns : goal.returns
returns c =
    own-steps c.args.states.now c.args.taken.now c.args.state (Some c.in_ok-step.field-0)
    c.step.result c.in_ok-state.field-0 c.in_ok-state.was (c.requires.taken c.requires.alone)
    (sym c.in_ok-step.was) c.step.ensures
