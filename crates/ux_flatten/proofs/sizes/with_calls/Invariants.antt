use Rattle.std.proofs.Common.{◌≡◌, ◌+◌, sum_by, take}
use Rattle.ux_flatten.specs.Making.{callee_size, capped, size_at, word_at}
use Rattle.ux_flatten.proofs.sizes.with_calls.Given as goal

-- the size with the copies in place of the edges so far
abbrev pub invariant-loop-edge : goal.invariant-loop-edge
invariant-loop-edge l = l.size ≡ capped (l.fn.size
    + sum_by (callee_size (word_at l.words) (size_at l.below)) (take l.edge-index l.edges))
