use Rattle.std.proofs.Common.{List, sym, subst}
use Rattle.ux_monitor.specs.declared.rule.Step.{Step}
use Rattle.ux_monitor.specs.Steps.{AreByPlace}
use Rattle.ux_monitor.proofs.steps.Steps.new.Goals as goal

pub invariant_of-result : goal.invariant_of-result
invariant_of-result c =
    subst (λ (list : List Step). AreByPlace list c.in_ok-rows.rows.items)
    (sym c.in_ok-list.ensures.items) c.in_ok-rows.ensures
