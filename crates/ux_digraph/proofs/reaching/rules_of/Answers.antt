use Rattle.std.proofs.Common.{arith, ◌≡◌, ◌∙◌, List, ℕ, [], length, subst, sym}
use Rattle.std.proofs.lemmas.List.{get_or_default}
use Rattle.ux_digraph.specs.EdgeRules.{AreRulesBelow, AreRulesAdded}
use Rattle.ux_digraph.proofs.EdgeRulesLemmas.{node_added}
use Rattle.ux_digraph.proofs.reaching.rules_of.Goals as goal

pub loop-node-preserved : goal.loop-node-preserved
loop-node-preserved c =
    node_added c.args.edges.now c.loop-node.node c.loop-node.rules.items
    c.push_rules.new.rules.items
    c.loop-node.invariant (subst (λ (row : List ℕ). AreRulesAdded c.loop-node.rules.items
    c.loop-node.node row c.push_rules.new.rules.items)
    (c.as_slice.ensures ∙ (c.index-edges-node.is
    ∙ sym (get_or_default c.args.edges.now c.loop-node.node [] c.index-edges-node.result
    c.loop-node-test.true))) c.in_ok-push_rules.ensures)

pub returns : goal.returns
returns c =
    let most = c.loop-node.auto.node-end in
    let least = c.loop-node-test.false in
    let all : c.loop-node.node ≡ length c.args.edges.now = omega arith in
    subst (λ n. AreRulesBelow c.args.edges.now n c.loop-node.rules.items) all
    c.loop-node.invariant
