use Rattle.std.proofs.Common.{take}
use Rattle.std.specs.List.{flat_map}
use Rattle.ux_base.specs.Distinct.{GrowsBy}
use Rattle.ux_net.specs.Masks.{masks_of_edge, masks_in}
use Rattle.ux_mask_table.proofs.net_masks.note_edges.Given as goal

-- the masks of the edges so far are noted
abbrev pub invariant-loop-edge : goal.invariant-loop-edge
invariant-loop-edge l =
    GrowsBy (flat_map masks_of_edge (take l.edge-index l.edges)) (masks_in l.fn.masks)
    (masks_in l.masks)
