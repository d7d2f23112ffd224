use Rattle.std.proofs.Common.{◌⊎◌}
use Rattle.ux_digraph.specs.Paths.{row_of}
use Rattle.ux_admission.specs.BadContexts.{IsStepRule, IsJumpRule}
use Rattle.ux_admission.specs.Gains.{Gains, SoBelow}
use Rattle.ux_admission.proofs.context_close.push_rules.Given as goal

abbrev pub invariant-loop-n : goal.invariant-loop-n
invariant-loop-n l = Gains l.fn.rules.items l.rules.items (SoBelow l.n
    (λ n r. IsStepRule l.leading n r ⊎ IsJumpRule l.leading (row_of l.rows n) n r))
