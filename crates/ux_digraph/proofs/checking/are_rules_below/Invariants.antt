use Rattle.std.proofs.Common.{take}
use Rattle.ux_digraph.specs.Checking.{AreRulesBelowSize}
use Rattle.ux_digraph.proofs.checking.are_rules_below.Given as goal

abbrev pub invariant-loop-rule : goal.invariant-loop-rule
invariant-loop-rule l = AreRulesBelowSize (take l.rule-index l.rules) l.size
