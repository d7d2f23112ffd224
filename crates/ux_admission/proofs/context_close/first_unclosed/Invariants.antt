use Rattle.std.proofs.Common.{ℕ, ◌<◌}
use Rattle.ux_admission.specs.BadContexts.{IsUnclosed}
use Rattle.ux_admission.proofs.context_close.first_unclosed.Given as goal

abbrev pub invariant-loop-n : goal.invariant-loop-n
invariant-loop-n l = (m : ℕ) → m < l.n → IsUnclosed l.leading m → ⊥
