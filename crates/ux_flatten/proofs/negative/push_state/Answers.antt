use Rattle.std.proofs.Common.{◌++◌}
use Rattle.std.specs.List.{flat_map}
use Rattle.ux_flatten.specs.Negative.{rules_of_edge}
use Rattle.ux_flatten.proofs.GrowthLemmas.{flat_all, flat_more}
use Rattle.ux_flatten.proofs.negative.push_state.Goals as goal

pub loop-edge-preserved : goal.loop-edge-preserved
loop-edge-preserved c =
    flat_more (rules_of_edge c.args.count c.args.a) c.args.edges.now c.loop-edge.edge-index
    c.edge-item.result c.loop-edge.rules.items c.push_edge.new.rules.items
    (c.args.rules.now.items ++ flat_map (rules_of_edge c.args.count c.args.a) c.args.edges.now)
    c.loop-edge-test.true c.edge-item.is c.loop-edge.invariant c.in_ok-push_edge.ensures

pub returns : goal.returns
returns c =
    flat_all (rules_of_edge c.args.count c.args.a) c.args.edges.now c.loop-edge.edge-index
    c.loop-edge.rules.items
    (c.args.rules.now.items ++ flat_map (rules_of_edge c.args.count c.args.a) c.args.edges.now)
    c.loop-edge-test.false c.loop-edge.invariant
