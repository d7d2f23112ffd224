use Rattle.std.proofs.Common.{take}
use Rattle.ux_digraph.specs.EdgeRules.{AreRulesAdded}
use Rattle.ux_digraph.proofs.reaching.push_rules.Given as goal

abbrev pub invariant-loop-end : goal.invariant-loop-end
invariant-loop-end l =
    AreRulesAdded l.fn.rules.items l.node (take l.end-index l.row) l.rules.items
