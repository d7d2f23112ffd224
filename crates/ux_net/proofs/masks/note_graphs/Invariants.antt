use Rattle.std.proofs.Common.{take}
use Rattle.std.specs.List.{flat_map}
use Rattle.ux_base.specs.Distinct.{GrowsBy}
use Rattle.ux_net.specs.Masks.{masks_of_graph, masks_in}
use Rattle.ux_net.proofs.masks.note_graphs.Given as goal

-- the masks of the graphs so far are noted
abbrev pub invariant-loop-graph : goal.invariant-loop-graph
invariant-loop-graph l =
    GrowsBy (flat_map masks_of_graph (take l.graph-index l.graphs)) (masks_in l.fn.masks)
    (masks_in l.masks)
