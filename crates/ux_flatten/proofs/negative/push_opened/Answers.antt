use Rattle.std.proofs.Common.{◌++◌}
use Rattle.std.specs.List.{flat_map}
use Rattle.ux_flatten.specs.Negative.{opened_of_edge}
use Rattle.ux_flatten.proofs.GrowthLemmas.{flat_all, flat_more}
use Rattle.ux_flatten.proofs.negative.push_opened.Goals as goal

pub loop-edge-preserved : goal.loop-edge-preserved
loop-edge-preserved c =
    flat_more opened_of_edge c.args.edges.now c.loop-edge.edge-index c.edge-item.result
    c.loop-edge.opened.items c.push_opened_by.new.opened.items
    (c.args.opened.now.items ++ flat_map opened_of_edge c.args.edges.now) c.loop-edge-test.true
    c.edge-item.is c.loop-edge.invariant c.in_ok-push_opened_by.ensures

pub returns : goal.returns
returns c =
    flat_all opened_of_edge c.args.edges.now c.loop-edge.edge-index c.loop-edge.opened.items
    (c.args.opened.now.items ++ flat_map opened_of_edge c.args.edges.now) c.loop-edge-test.false
    c.loop-edge.invariant
