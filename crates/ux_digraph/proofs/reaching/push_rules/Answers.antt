use Rattle.std.proofs.Common.{◌+◌, List, ℕ, take, get_or, subst}
use Rattle.ux_digraph.specs.EdgeRules.{AreRulesAdded}
use Rattle.ux_base.proofs.Lists.{take_more, take_whole}
use Rattle.ux_digraph.proofs.EdgeRulesLemmas.{one_added}
use Rattle.ux_digraph.proofs.reaching.push_rules.Goals as goal

pub loop-end-preserved : goal.loop-end-preserved
loop-end-preserved c =
    one_added c.args.rules.now.items c.loop-end.rules.items c.push.new.self.items c.args.node
    (get_or c.args.row.now c.loop-end.end-index 0) (take c.loop-end.end-index c.args.row.now)
    (take (c.loop-end.end-index + 1) c.args.row.now) c.loop-end.invariant
    (take_more c.args.row.now c.loop-end.end-index 0 c.loop-end-test.true)
    c.in_ok-push.ensures.items

pub returns : goal.returns
returns c =
    subst (λ (row : List ℕ). AreRulesAdded c.args.rules.now.items c.args.node row
    c.loop-end.rules.items) (take_whole c.args.row.now c.loop-end.end-index c.loop-end-test.false)
    c.loop-end.invariant
