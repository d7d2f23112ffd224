use Rattle.std.proofs.Common.{List, subst}
use Rattle.std.specs.List.{flat_map}
use Rattle.ux_base.specs.Distinct.{GrowsBy}
use Rattle.ux_base.proofs.FirstsLemmas.{GrowsBy-next, GrowsBy-end}
use Rattle.ux_net.specs.declared.state.Edge.{Edge}
use Rattle.ux_net.specs.Masks.{masks_of_edge, masks_in}
use Rattle.ux_net.proofs.masks.note_state.Goals as goal

pub loop-edge-preserved : goal.loop-edge-preserved
loop-edge-preserved c =
    GrowsBy-next masks_of_edge c.as_slice-edge-items.result.now c.loop-edge.edge-index
    c.edge-item.result (masks_in c.args.masks.now) (masks_in c.loop-edge.masks)
    (masks_in c.note_edge.new.masks) c.loop-edge-test.true c.edge-item.is
    c.loop-edge.invariant c.in_ok-note_edge.ensures

pub returns : goal.returns
returns c =
    subst (λ (edges : List Edge). GrowsBy (flat_map masks_of_edge edges)
    (masks_in c.args.masks.now) (masks_in c.loop-edge.masks)) c.as_slice-edge-items.ensures
    (GrowsBy-end masks_of_edge c.as_slice-edge-items.result.now c.loop-edge.edge-index
    (masks_in c.args.masks.now) (masks_in c.loop-edge.masks) c.loop-edge-test.false
    c.loop-edge.invariant)
