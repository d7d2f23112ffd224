use Rattle.std.proofs.Common.{◌≡◌, ◌<◌, ℕ, true}
use Rattle.ux_digraph.specs.Rules.{is_marked_at}
use Rattle.ux_net.specs.Nets.{IsNetEnd}
use Rattle.ux_flatten.proofs.words.has_marked_end.Given as goal

-- no final state so far is marked
abbrev pub invariant-loop-number : goal.invariant-loop-number
invariant-loop-number l = (n : ℕ) → n < l.number → IsNetEnd l.states n →
    is_marked_at l.marks n ≡ true → ⊥
