use Rattle.std.proofs.Common.{take}
use Rattle.ux_rules.specs.Phases.{AreRulesOf}
use Rattle.ux_rules.proofs.phases.rules_of.Given as goal

abbrev pub invariant-loop-step : goal.invariant-loop-step
invariant-loop-step l = AreRulesOf (take l.step-index l.steps) l.rules.items
