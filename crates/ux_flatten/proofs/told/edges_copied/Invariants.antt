use Rattle.std.proofs.Common.{◌≡◌, take}
use Rattle.ux_flatten.proofs.told.edges_copied.Given as goal

-- the edges so far
abbrev pub invariant-loop-edge : goal.invariant-loop-edge
invariant-loop-edge l = l.copy.items ≡ take l.edge-index l.edges
