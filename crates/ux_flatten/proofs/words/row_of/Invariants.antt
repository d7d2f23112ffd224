use Rattle.std.proofs.Common.{◌≡◌, map, take}
use Rattle.ux_flatten.specs.Paths.{target_of}
use Rattle.ux_flatten.proofs.words.row_of.Given as goal

-- the targets so far
abbrev pub invariant-loop-edge : goal.invariant-loop-edge
invariant-loop-edge l = l.row.items ≡ map target_of (take l.edge-index l.state.edges)
