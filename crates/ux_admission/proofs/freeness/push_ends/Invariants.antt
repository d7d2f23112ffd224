use Rattle.ux_admission.specs.Gains.{Gains, SoBelow}
use Rattle.ux_admission.proofs.WaysExact.{IsEndOf}
use Rattle.ux_admission.proofs.freeness.push_ends.Given as goal

abbrev pub invariant-loop-k : goal.invariant-loop-k
invariant-loop-k l =
    Gains l.fn.ends.items l.ends.items (SoBelow l.k (IsEndOf l.graphs l.offsets))
