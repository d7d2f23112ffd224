use Rattle.std.proofs.Common.{ℕ, ◌<◌}
use Rattle.ux_rules.specs.Finding.{IsBadByPhases}
use Rattle.ux_rules.proofs.marks.first_bad.Given as goal

abbrev pub invariant-loop-node : goal.invariant-loop-node
invariant-loop-node l = (m : ℕ) → m < l.node → IsBadByPhases l.graph l.found m → ⊥
