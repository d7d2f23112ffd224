use Rattle.ux_digraph.specs.EdgeRules.{AreRulesBelow}
use Rattle.ux_digraph.proofs.reaching.rules_of.Given as goal

abbrev pub invariant-loop-node : goal.invariant-loop-node
invariant-loop-node l = AreRulesBelow l.edges l.node l.rules.items
