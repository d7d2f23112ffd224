use Rattle.std.proofs.Common.{rules}
use Rattle.std.proofs.lemmas.List.{get_or_default}
use Rattle.ux_image_lists.proofs.DepthLemmas.{lowered_more, lowered_none}
use Rattle.ux_image_lists.proofs.shortest.lower_targets.Goals as goal

pub loop-edge-init : goal.loop-edge-init
loop-edge-init c = lowered_none c.args.edges.now c.args.depth c.args.depths.now

pub loop-edge-preserved : goal.loop-edge-preserved
loop-edge-preserved c =
    lowered_more c.args.edges.now c.loop-edge.edge-index c.args.depth _ c.args.depths.now
    c.loop-edge.depths c.lower.new.numbers c.loop-edge.invariant c.loop-edge-test.true
    (λ d. get_or_default c.args.edges.now c.loop-edge.edge-index d _ c.loop-edge-test.true)
    (search rules) c.lower.ensures
