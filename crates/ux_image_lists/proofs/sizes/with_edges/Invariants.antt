use Rattle.std.proofs.Common.{take}
use Rattle.ux_image_lists.specs.Summing.{IsSumOf}
use Rattle.ux_image_lists.proofs.sizes.with_edges.Given as goal

-- the sum of the edges so far
abbrev pub invariant-loop-edge : goal.invariant-loop-edge
invariant-loop-edge l = IsSumOf l.own (take l.edge-index l.edges) l.sums l.sum
