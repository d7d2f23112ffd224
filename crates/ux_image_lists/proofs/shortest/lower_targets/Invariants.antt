use Rattle.std.proofs.Common.{take}
use Rattle.ux_image_lists.specs.Depths.{AreLowered}
use Rattle.ux_image_lists.proofs.shortest.lower_targets.Given as goal

-- the targets of the edges so far are lowered
abbrev pub invariant-loop-edge : goal.invariant-loop-edge
invariant-loop-edge l = AreLowered (take l.edge-index l.edges) l.depth l.initial.depths l.depths
