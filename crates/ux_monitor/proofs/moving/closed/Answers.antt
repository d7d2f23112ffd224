use Rattle.std.proofs.Common.{arith}
use Rattle.ux_monitor.proofs.FreeStepsLemmas.{walk_first, walked, popped, emptied}
use Rattle.ux_monitor.proofs.moving.closed.Goals as goal

pub loop-place-init : goal.loop-place-init
loop-place-init c =
    walk_first c.args.steps.now c.args.ahead.items c.new-found.result.keys c.new-found.ensures.empty

pub loop-place-preserved : goal.loop-place-preserved
loop-place-preserved c =
    c.in_ok-follow.ensures.walk c.args.ahead.items c.loop-place.ahead.items
    (popped c.loop-place.ahead.items c.pop.new.self.items c.in-Some.place c.in-Some.ensures.items)
    c.loop-place.invariant

pub loop-place-smaller : goal.loop-place-smaller
loop-place-smaller c =
    let less = c.in_ok-follow.ensures.less in
    let len = c.in-Some.ensures.cases in
    omega (arith, less, len)

pub returns : goal.returns
returns c =
    walked c.args.steps.now c.args.ahead.items c.loop-place.found.keys c.loop-place.ahead.items
    (emptied c.loop-place.ahead.items (let none = c.in_default.ensures.cases.0 in omega (arith, none)))
    c.loop-place.invariant
