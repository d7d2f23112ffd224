use Rattle.std.proofs.Common.{◌∙◌, get_or, sym}
use Rattle.std.proofs.lemmas.List.{get_or_default}
use Rattle.ux_admission.specs.Ways.{IsJump}
use Rattle.ux_admission.proofs.GainsLemmas.{gains_item, gains_items, gains_one}
use Rattle.ux_admission.proofs.ways.push_jumps.Goals as goal

pub loop-closer-preserved : goal.loop-closer-preserved
loop-closer-preserved c =
    let closer = get_or c.args.closers.now c.loop-closer.closer-index 0 in
    gains_item c.args.ways.now.items c.loop-closer.ways.items c.push.new.self.items
    c.args.closers.now c.loop-closer.closer-index closer (IsJump c.args.step)
    c.loop-closer-test.true
    (get_or_default c.args.closers.now c.loop-closer.closer-index 0 closer c.loop-closer-test.true)
    c.loop-closer.invariant
    (gains_one c.loop-closer.ways.items c.push.new.self.items c.jump.result
    (IsJump c.args.step closer) c.in_ok-push.ensures.items (sym c.jump.ensures)
    (λ way e. c.jump.ensures ∙ e))

pub returns : goal.returns
returns c =
    gains_items c.args.ways.now.items c.loop-closer.ways.items c.args.closers.now
    c.loop-closer.closer-index (IsJump c.args.step) c.loop-closer-test.false
    c.loop-closer.invariant
