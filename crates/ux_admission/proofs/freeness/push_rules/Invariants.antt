use Rattle.ux_admission.specs.Gains.{Gains, SoBelow, SoAt}
use Rattle.ux_admission.specs.Ways.{IsRuleOf}
use Rattle.ux_admission.proofs.freeness.push_rules.Given as goal

abbrev pub invariant-loop-way : goal.invariant-loop-way
invariant-loop-way l =
    Gains l.fn.rules.items l.rules.items (SoBelow l.way-index (SoAt l.ways IsRuleOf))
