use Rattle.std.proofs.Common.{refl}
use Rattle.ux_admission.specs.Gains.{SoOfOne}
use Rattle.ux_admission.specs.Ways.{IsOpeningWay, IsJump}
use Rattle.ux_admission.specs.declared.way.Passage.TheVariants.{Opens}
use Rattle.ux_admission.proofs.GainsLemmas.{gains_one, gains_then}
use Rattle.ux_admission.proofs.ways.push_context.Goals as goal

pub returns : goal.returns
returns c =
    let step = c.args.step in
    gains_then c.args.ways.now.items c.push.new.self.items c.push_jumps.new.ways.items
    (IsOpeningWay step) (SoOfOne c.args.closers.now (IsJump step))
    (gains_one c.args.ways.now.items c.push.new.self.items (record step { passage = Opens })
    (IsOpeningWay step) c.in_ok-push.ensures.items refl (λ way e. e)) c.in_ok-push_jumps.ensures
