use Rattle.std.proofs.Common.{◌∙◌, sym}
use Rattle.ux_closure.specs.Meeting.{known}
use Rattle.ux_closure.proofs.Results.{on_ok}
use Rattle.ux_closure.proofs.Rounds.{steps_at, steps_none}
use Rattle.ux_closure.proofs.passing.step_at.Goals as goal

pub returns-in-Some-clause-adds : goal.returns-in-Some-clause-adds
returns-in-Some-clause-adds c = on_ok c.step.result _ _
    (steps_at c.args.net.now c.args.is_spaced (known c.args.stacks.now.links.keys c.args.met.now)
    (known c.step.new.stacks.links.keys c.step.new.met) c.args.place c.in-Some.stand
    c.requires.sound (sym c.stand.ensures ∙ c.in-Some.is)) c.step.ensures.adds

pub returns-in-None-clause-adds : goal.returns-in-None-clause-adds
returns-in-None-clause-adds c = steps_none c.args.net.now c.args.is_spaced
    (known c.args.stacks.now.links.keys c.args.met.now) c.args.place c.requires.sound (sym c.stand.ensures ∙ c.in-None.is)
