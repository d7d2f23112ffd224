use Rattle.std.proofs.Common.{ℕ, ◌<◌}
use Rattle.ux_rules.specs.Refusing.{HasCall}
use Rattle.ux_rules.proofs.calls.first_call.Given as goal

abbrev pub invariant-loop-node : goal.invariant-loop-node
invariant-loop-node l = (m : ℕ) → m < l.node → HasCall l.graph m → ⊥
