use Rattle.std.proofs.Common.{◌≤◌, List, length, subst}
use Rattle.ux_grf.specs.declared.graph.GrfBox.{GrfBox}
use Rattle.ux_rules.specs.Finding.{IsBadByPhases}
use Rattle.ux_rules.proofs.MarkedLemmas.{none_next, finds_none}
use Rattle.ux_rules.proofs.marks.first_bad.Goals as goal

pub loop-node-preserved : goal.loop-node-preserved
loop-node-preserved c =
    none_next (IsBadByPhases c.args.graph.now c.args.found.now) c.loop-node.node
    c.loop-node.invariant
    (λ h. let there = c.is_bad_box.ensures.1 h in let off = c.if-is_bad_box.false in cc)

pub returns : goal.returns
returns c =
    finds_none c.args.graph.now (IsBadByPhases c.args.graph.now c.args.found.now) c.loop-node.node
    (subst (λ (bs : List GrfBox). length bs ≤ c.loop-node.node) c.as_slice-node-end.ensures
    c.loop-node-test.false) c.loop-node.invariant
