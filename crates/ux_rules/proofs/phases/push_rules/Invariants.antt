use Rattle.ux_rules.specs.Phases.{AreRulesAdded}
use Rattle.ux_rules.proofs.phases.push_rules.Given as goal

abbrev pub invariant-loop-phase : goal.invariant-loop-phase
invariant-loop-phase l = AreRulesAdded l.fn.rules.items l.step l.phase l.rules.items
