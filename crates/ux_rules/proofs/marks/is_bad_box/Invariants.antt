use Rattle.std.proofs.Common.{ℕ, ◌<◌}
use Rattle.ux_rules.proofs.MarkedLemmas.{IsBadAt}
use Rattle.ux_rules.proofs.marks.is_bad_box.Given as goal

abbrev pub invariant-loop-phase : goal.invariant-loop-phase
invariant-loop-phase l = (k : ℕ) → k < l.phase → IsBadAt l.graph l.found l.node k → ⊥
