use Rattle.std.proofs.Common.{ℕ, ◌<◌}
use Rattle.ux_reading_match.specs.Usable.{IsBadState}
use Rattle.ux_reading_match.proofs.usability.first_in.Given as goal

-- no state so far is bad
abbrev pub invariant-loop-node : goal.invariant-loop-node
invariant-loop-node l = (m : ℕ) → m < l.node → IsBadState l.net l.graph m → ⊥
