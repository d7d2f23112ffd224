use Rattle.std.proofs.Common.{◌≤◌, List, length, subst}
use Rattle.ux_grf.specs.declared.graph.GrfBox.{GrfBox}
use Rattle.ux_rules.specs.Refusing.{HasCall}
use Rattle.ux_rules.proofs.MarkedLemmas.{none_next, finds_none}
use Rattle.ux_rules.proofs.calls.first_call.Goals as goal

pub loop-node-preserved : goal.loop-node-preserved
loop-node-preserved c =
    none_next (HasCall c.args.graph.now) c.loop-node.node c.loop-node.invariant
    (λ h. let there = c.has_call.ensures.1 h in let off = c.if-has_call.false in cc)

pub returns : goal.returns
returns c =
    finds_none c.args.graph.now (HasCall c.args.graph.now) c.loop-node.node
    (subst (λ (bs : List GrfBox). length bs ≤ c.loop-node.node) c.as_slice-node-end.ensures
    c.loop-node-test.false) c.loop-node.invariant
