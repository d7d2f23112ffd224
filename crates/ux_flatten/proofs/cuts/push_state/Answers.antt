use Rattle.std.proofs.Common.{◌++◌}
use Rattle.std.specs.List.{flat_map}
use Rattle.ux_flatten.specs.Cutting.{callee_of}
use Rattle.ux_flatten.specs.Making.{word_at}
use Rattle.ux_flatten.proofs.GrowthLemmas.{flat_all, flat_more}
use Rattle.ux_flatten.proofs.cuts.push_state.Goals as goal

pub loop-edge-preserved : goal.loop-edge-preserved
loop-edge-preserved c =
    let words = word_at c.args.words.now in
    flat_more (callee_of words) c.args.edges.now c.loop-edge.edge-index c.edge-item.result
    c.loop-edge.list.items c.push_edge.new.list.items
    (c.args.list.now.items ++ flat_map (callee_of words) c.args.edges.now) c.loop-edge-test.true
    c.edge-item.is c.loop-edge.invariant c.in_ok-push_edge.ensures

pub returns : goal.returns
returns c =
    let words = word_at c.args.words.now in
    flat_all (callee_of words) c.args.edges.now c.loop-edge.edge-index c.loop-edge.list.items
    (c.args.list.now.items ++ flat_map (callee_of words) c.args.edges.now) c.loop-edge-test.false
    c.loop-edge.invariant
