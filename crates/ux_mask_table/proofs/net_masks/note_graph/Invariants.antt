use Rattle.std.proofs.Common.{take}
use Rattle.std.specs.List.{flat_map}
use Rattle.ux_base.specs.Distinct.{GrowsBy}
use Rattle.ux_net.specs.Masks.{masks_of_state, masks_in}
use Rattle.ux_net.specs.Nets.{states_of}
use Rattle.ux_mask_table.proofs.net_masks.note_graph.Given as goal

-- the masks of the states so far are noted
abbrev pub invariant-loop-state : goal.invariant-loop-state
invariant-loop-state l =
    GrowsBy (flat_map masks_of_state (take l.state (states_of l.net l.graph))) (masks_in l.fn.masks)
    (masks_in l.masks)
