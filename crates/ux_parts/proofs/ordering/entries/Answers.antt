use Rattle.std.proofs.Common.{◌+◌, []}
use Rattle.ux_base.proofs.JoinedLists.{adds_list}
use Rattle.ux_parts.specs.Order.{entries_at}
use Rattle.ux_parts.proofs.ordering.entries.Goals as goal

pub loop-before-preserved : goal.loop-before-preserved
loop-before-preserved c =
    adds_list (λ k. entries_at c.args.net.now (k + 1)) [] c.loop-before.entries.items
    c.push_graph.new.entries.items c.loop-before.before c.loop-before.invariant
    c.in_ok-push_graph.ensures
