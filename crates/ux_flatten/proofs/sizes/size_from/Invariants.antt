use Rattle.std.proofs.Common.{◌≡◌, ◌+◌, length, sum_by, take}
use Rattle.ux_net.specs.declared.state.State.{State}
use Rattle.ux_flatten.specs.Making.{callee_size, capped, size_at, word_at}
use Rattle.ux_flatten.proofs.sizes.size_from.Given as goal

-- the size with the copies in place of the edges of the states so far
abbrev pub invariant-loop-state : goal.invariant-loop-state
invariant-loop-state l = l.size ≡ capped (length l.graph.states
    + sum_by (λ (state : State). sum_by (callee_size (word_at l.words) (size_at l.below)) state.edges)
    (take l.state-index l.graph.states))
