use Rattle.std.proofs.Common.{[], ◌∷◌, ◌++◌}
use Rattle.ux_parts.specs.Order.{entry_of}
use Rattle.ux_parts.proofs.OrderingLemmas.{states_more}
use Rattle.ux_parts.proofs.ordering.push_graph.Goals as goal

pub loop-state-preserved : goal.loop-state-preserved
loop-state-preserved c =
    states_more c.args.net.now c.args.graph c.loop-state.state c.edges.result.now
    (c.args.entries.now.items ++ entry_of c.args.net.now c.args.graph 0 ∷ [])
    c.loop-state.entries.items c.push_opened.new.entries.items c.edges.ensures
    c.loop-state.invariant c.in_ok-push_opened.ensures
