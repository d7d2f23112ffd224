use Rattle.std.proofs.Common.{arith, refl, get_or, false}
use Rattle.ux_state_places.proofs.KeepingLemmas.{kept_next, kept_all}
use Rattle.ux_state_places.proofs.keeping.kept_places.Goals as goal

pub loop-n-preserved : goal.loop-n-preserved
loop-n-preserved c =
    let n = c.loop-n.n in
    let is_met = get_or c.args.marks.now n false in
    let at = c.in_ok-keep.ensures in
    kept_next c.args.marks.now c.args.places n c.loop-n.kept.items c.keep.new.places.items is_met
    at.targets c.loop-n.invariant refl at.exact at.set

pub returns : goal.returns
returns c =
    let len = c.requires.len in
    let past = c.loop-n-test.false in
    kept_all c.args.marks.now c.args.places c.loop-n.n c.loop-n.kept.items
    (omega (arith, len, past)) c.loop-n.invariant
