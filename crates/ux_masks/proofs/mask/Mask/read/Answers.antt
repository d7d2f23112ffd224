use Rattle.ux_masks.proofs.RefusedLemmas.{refuses_whole, refuses_there}
use Rattle.ux_masks.proofs.mask.Mask.read.Goals as goal

pub returns-then-is_refused-clause-err : goal.returns-then-is_refused-clause-err
returns-then-is_refused-clause-err c =
    refuses_whole c.args.text.now c.count_chars.result c.utf8.text c.in_default.ensures
    (c.is_refused.ensures.0 c.if-is_refused.true) c.count_chars.ensures

pub returns-in-Err-At-clause-err : goal.returns-in-Err-At-clause-err
returns-in-Err-At-clause-err c =
    let s = rw c.in-Err-At.field-0-is at c.in-Err-At.ensures.err in
    refuses_there c.args.text.now c.in-Err-At.left.now c.count_before.result c.utf8.text
    c.in_default.ensures s (c.count_before.ensures s.front s.whole)
