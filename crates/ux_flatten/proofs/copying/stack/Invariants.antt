use Rattle.std.proofs.Common.{◌≡◌, ◌++◌, length, reverse}
use Rattle.ux_flatten.proofs.copying.stack.Given as goal

-- what is on the stack, with what is still to be put there
abbrev pub invariant-loop-copy : goal.invariant-loop-copy
invariant-loop-copy l =
    l.pending.items ++ reverse l.inner.items ≡ l.initial.pending.items ++ reverse l.initial.inner.items

abbrev pub decreases-loop-copy : goal.decreases-loop-copy
decreases-loop-copy l = length l.inner.items
