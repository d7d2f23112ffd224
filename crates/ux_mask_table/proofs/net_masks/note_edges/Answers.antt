use Rattle.ux_base.proofs.FirstsLemmas.{GrowsBy-next, GrowsBy-end}
use Rattle.ux_net.specs.Masks.{masks_of_edge, masks_in}
use Rattle.ux_mask_table.proofs.net_masks.note_edges.Goals as goal

pub loop-edge-preserved : goal.loop-edge-preserved
loop-edge-preserved c =
    GrowsBy-next masks_of_edge c.args.edges.now c.loop-edge.edge-index c.edge-item.result
    (masks_in c.args.masks.now) (masks_in c.loop-edge.masks) (masks_in c.note_edge.new.masks)
    c.loop-edge-test.true c.edge-item.is c.loop-edge.invariant c.in_ok-note_edge.ensures

pub returns : goal.returns
returns c =
    GrowsBy-end masks_of_edge c.args.edges.now c.loop-edge.edge-index
    (masks_in c.args.masks.now) (masks_in c.loop-edge.masks) c.loop-edge-test.false
    c.loop-edge.invariant
