use Rattle.ux_monitor.proofs.OwingLemmas.{noted_paid, noted_kept}
use Rattle.ux_monitor.proofs.owing.note_later.Goals as goal

pub returns-then-is_settled : goal.returns-then-is_settled
returns-then-is_settled c =
    noted_paid c.args.steps.now c.args.ends.now c.args.passed.now.keys c.args.one.now
    c.args.next.now.keys (c.in_ok-is_settled.ensures.0 c.if-is_settled.true)

pub returns : goal.returns
returns c =
    noted_kept c.args.steps.now c.args.ends.now c.args.passed.now.keys c.args.one.now
    c.in_ok-after.after c.args.next.now.keys c.keep.new.owed.keys
    c.in_ok-after.ensures c.in_ok-keep.ensures
