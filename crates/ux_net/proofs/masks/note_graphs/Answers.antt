use Rattle.ux_base.proofs.FirstsLemmas.{GrowsBy-next, GrowsBy-end}
use Rattle.ux_net.specs.Masks.{masks_of_graph, masks_in}
use Rattle.ux_net.proofs.masks.note_graphs.Goals as goal

pub loop-graph-preserved : goal.loop-graph-preserved
loop-graph-preserved c =
    GrowsBy-next masks_of_graph c.args.graphs.now c.loop-graph.graph-index c.graph-item.result
    (masks_in c.args.masks.now) (masks_in c.loop-graph.masks) (masks_in c.note_graph.new.masks)
    c.loop-graph-test.true c.graph-item.is c.loop-graph.invariant c.in_ok-note_graph.ensures

pub returns : goal.returns
returns c =
    GrowsBy-end masks_of_graph c.args.graphs.now c.loop-graph.graph-index
    (masks_in c.args.masks.now) (masks_in c.loop-graph.masks) c.loop-graph-test.false
    c.loop-graph.invariant
