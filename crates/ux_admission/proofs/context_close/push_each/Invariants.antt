use Rattle.std.proofs.Common.{◌≡◌, get_or}
use Rattle.ux_admission.specs.BadContexts.{rule_to}
use Rattle.ux_admission.specs.Gains.{Gains, SoBelow}
use Rattle.ux_admission.proofs.context_close.push_each.Given as goal

abbrev pub invariant-loop-source : goal.invariant-loop-source
invariant-loop-source l = Gains l.fn.rules.items l.rules.items
    (SoBelow l.source-index (λ k r. rule_to (get_or l.sources k 0) l.premise ≡ r))
