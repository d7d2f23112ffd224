use Rattle.std.proofs.Common.{◌≡◌, ℕ, ◌<◌, get_or}
use Rattle.ux_admission.proofs.context_close.has_two.Given as goal

abbrev pub invariant-loop-closer : goal.invariant-loop-closer
invariant-loop-closer l =
    (k : ℕ) → k < l.closer-index → get_or l.closers k 0 ≡ get_or l.closers 0 0
