use Rattle.std.proofs.Common.{ap, ◌∙◌}
use Rattle.ux_base.proofs.Lists.{take_whole}
use Rattle.ux_elag.specs.Ready.{numbered_steps}
use Rattle.ux_elag.proofs.StepsLemmas.{numbered-more}
use Rattle.ux_elag.proofs.ready.numbered_steps_of.Goals as goal

pub loop-index-preserved : goal.loop-index-preserved
loop-index-preserved c =
    numbered-more c.args.steps.now c.loop-index.index c.index-steps-index.result
    c.numbered_sign.result c.loop-index.found.items c.push.new.self.items c.loop-index-test.true
    c.index-steps-index.is c.numbered_sign.ensures c.in_ok-push.ensures.items c.loop-index.invariant

pub returns-clause-numbered : goal.returns-clause-numbered
returns-clause-numbered c =
    c.loop-index.invariant ∙ ap (numbered_steps 0)
    (take_whole c.args.steps.now c.loop-index.index c.loop-index-test.false)
