use Rattle.std.proofs.Common.{arith}
use Rattle.ux_apply.proofs.CursorLemmas.{begins-more, begins-none, taken-all}
use Rattle.ux_apply.proofs.cursors.may_go_on.Goals as goal

pub loop-cursor-init : goal.loop-cursor-init
loop-cursor-init c alphabet text dics led = begins-none alphabet c.args.cursors.now text dics led

pub loop-cursor-preserved : goal.loop-cursor-preserved
loop-cursor-preserved c alphabet text =
    begins-more alphabet c.args.cursors.now c.loop-cursor.cursor-index c.cursor-item.result
    (omega arith) c.cursor-item.is text (c.loop-cursor.invariant alphabet text)
    (λ content leads begins.
    let t = (c.may_go_on.ensures alphabet content text leads).1 begins in
    let f = c.if-may_go_on.false in cc)

pub returns : goal.returns
returns c = λ _ text alphabet dics led.
    c.loop-cursor.invariant alphabet text dics
    (taken-all alphabet c.args.cursors.now c.loop-cursor.cursor-index text dics (omega arith)
    led.each)
