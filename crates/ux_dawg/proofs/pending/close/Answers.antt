use Rattle.std.proofs.Common.{arith}
use Rattle.ux_dawg.proofs.StepLemmas.{kept_within}
use Rattle.ux_dawg.proofs.pending.close.Goals as goal

pub overflow_cast-target : goal.overflow_cast-target
overflow_cast-target c =
    let within = kept_within _ _ _ _ c.in_ok-number.ensures in omega (arith, within)
