use Rattle.std.proofs.Common.{take}
use Rattle.std.specs.List.{flat_map}
use Rattle.ux_base.specs.Distinct.{GrowsBy}
use Rattle.ux_net.specs.Masks.{masks_of_graph, masks_in}
use Rattle.ux_mask_table.proofs.net_masks.NetMasks.of.Given as goal

-- the masks of the graphs so far are noted
abbrev pub invariant-loop-before : goal.invariant-loop-before
invariant-loop-before l =
    GrowsBy (flat_map masks_of_graph (take l.before l.net)) (masks_in l.initial.set)
    (masks_in l.set)
