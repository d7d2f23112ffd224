use Rattle.std.proofs.Common.{get_or}
use Rattle.ux_digraph.specs.Paths.{row_of}
use Rattle.ux_admission.specs.BadContexts.{IsRuleFrom}
use Rattle.ux_admission.specs.Gains.{Gains, SoBelow}
use Rattle.ux_admission.proofs.context_close.push_jumps.Given as goal

abbrev pub invariant-loop-closer : goal.invariant-loop-closer
invariant-loop-closer l = Gains l.fn.rules.items l.rules.items (SoBelow l.closer-index
    (λ k. IsRuleFrom (row_of l.leading.sources.items l.n) (get_or l.closers k 0)))
