use Rattle.std.proofs.Common.{◌≡◌}
use Rattle.ux_admission.specs.Gains.{Gains, SoBelow}
use Rattle.ux_admission.specs.Leading.{IsSource}
use Rattle.ux_admission.proofs.leading.push_pairs.Given as goal

abbrev pub invariant-loop-n : goal.invariant-loop-n
invariant-loop-n l = Gains l.fn.pairs.items l.pairs.items
    (SoBelow l.n (λ n p. IsSource l.places n p.0 × (n ≡ p.1)))
