use Rattle.std.proofs.Common.{arith, refl}
use Rattle.ux_monitor.specs.Parts.{number_at}
use Rattle.ux_monitor.proofs.PartsLemmas.{accept-all, accept-more, accept-none, read-at, seen-length}
use Rattle.ux_monitor.proofs.joint.each_accepts.Goals as goal

pub loop-index-init : goal.loop-index-init
loop-index-init c = accept-none c.args.memories.now c.args.seen.now

pub bounds-seen-index : goal.bounds-seen-index
bounds-seen-index c =
    let counted = c.requires.counted in
    let all = seen-length c.args.memories.now in
    let lt = c.loop-index-test.true in
    omega (arith, counted, all, lt)

pub loop-index-preserved : goal.loop-index-preserved
loop-index-preserved c =
    let memories = c.args.memories.now in
    let numbers = c.args.seen.now in
    let i = c.loop-index.index in
    let lt = c.loop-index-test.true in
    accept-more memories numbers i c.loop-index.all c.accepts.result c.are_both-all.result
    c.index-memories-index.result (number_at numbers i)
    (read-at memories i c.index-memories-index.result lt c.index-memories-index.is) refl
    c.requires lt c.accepts.ensures c.are_both-all.ensures c.loop-index.invariant

pub returns : goal.returns
returns c =
    let end = c.loop-index-test.false in
    accept-all c.args.memories.now c.args.seen.now c.loop-index.index c.loop-index.all
    (omega (arith, end)) c.loop-index.invariant
