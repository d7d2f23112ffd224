use Rattle.std.proofs.Common.{arith, ◌∙◌, length}
use Rattle.ux_admission.proofs.FindingLemmas.{box, in_box, rows_none, finding_begins, finding_ends, all_inside}
use Rattle.ux_admission.proofs.closers.find.Goals as goal

pub begin-requires-clause-rows : goal.begin-requires-clause-rows
begin-requires-clause-rows c =
    rows_none c.args.found.now.keys c.args.rows.now.items c.requires.none c.requires.rows

pub loop-next-init : goal.loop-next-init
loop-next-init c =
    finding_begins c.args.leading.now c.args.found.now.keys c.begin.new.found.keys
    c.begin.new.rows.items c.args.jumps.now.items c.requires.none c.in_ok-begin.ensures.finds
    c.in_ok-begin.ensures.rows c.requires.jumps
    (c.in_ok-begin.ensures.len ∙ c.requires.rows_len) c.requires.jumps_len

pub loop-next-smaller : goal.loop-next-smaller
loop-next-smaller c =
    let count = length c.args.leading.now.sources.items in
    let few = c.is_bounded.ensures (box count count) (λ p h.
    let there = all_inside c.args.leading.now c.requires.inside c.loop-next.found.keys
    c.loop-next.rows.items c.loop-next.jumps.items c.loop-next.next c.loop-next.invariant p h in
    in_box count count p there.0 there.1) in
    let len = c.len.ensures.len in
    let test = c.loop-next-test.true in
    omega (arith, few, len, test)

pub returns : goal.returns
returns c =
    let len = c.len.ensures.len in
    let test = c.loop-next-test.false in
    finding_ends c.args.leading.now c.loop-next.found.keys c.loop-next.rows.items
    c.loop-next.jumps.items c.loop-next.next c.loop-next.invariant (omega (arith, len, test))
