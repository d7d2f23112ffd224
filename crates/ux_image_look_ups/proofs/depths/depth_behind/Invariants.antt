use Rattle.std.proofs.Common.{◌≡◌, take}
use Rattle.ux_image_look_ups.specs.Longest.{deepest}
use Rattle.ux_image_look_ups.proofs.depths.depth_behind.Given as goal

-- the longest of the ways with the edges so far
abbrev pub invariant-loop-edge : goal.invariant-loop-edge
invariant-loop-edge l = l.most ≡ deepest l.depths (take l.edge-index l.edges)
