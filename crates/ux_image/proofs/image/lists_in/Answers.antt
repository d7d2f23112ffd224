use Rattle.std.proofs.Common.{arith}
use Rattle.ux_image.specs.Lent.{lent}
use Rattle.ux_image.proofs.NumberLemmas.{lists_more}
use Rattle.ux_image.proofs.image.lists_in.Goals as goal

pub loop-number-preserved : goal.loop-number-preserved
loop-number-preserved c =
    lists_more c.args.lists.now.keys c.as_slice-number-items.result.now c.loop-number.number-index
    (lent c.loop-number.used.items) (lent c.push_list.new.used.items) (omega arith)
    c.loop-number.invariant c.in_ok-push_list.ensures
