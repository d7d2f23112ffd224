use Rattle.std.proofs.Common.{◌≡◌, List, length, get_or, sym, subst, true, false}
use Rattle.ux_digraph.specs.declared.closing.Rule.{Rule}
use Rattle.ux_digraph.specs.EdgeRules.{AreRulesBelow}
use Rattle.ux_digraph.proofs.EdgeRulesLemmas.{edge_rules_inside, reached_exactly}
use Rattle.ux_digraph.proofs.reaching.reached.Goals as goal

pub closure-requires : goal.closure-requires
closure-requires c = record {
  inside = edge_rules_inside c.args.edges.now c.deref.result.now
      (subst (λ (rules : List Rule). AreRulesBelow c.args.edges.now (length c.args.edges.now) rules)
      (sym c.deref.ensures.value) c.in_ok-rules.ensures) c.args.start c.requires.inside
      c.requires.start;
}

pub returns-clause-marks : goal.returns-clause-marks
returns-clause-marks c = λ v.
    reached_exactly c.args.edges.now c.deref.result.now
    (subst (λ (rules : List Rule). AreRulesBelow c.args.edges.now (length c.args.edges.now) rules)
    (sym c.deref.ensures.value) c.in_ok-rules.ensures) c.args.start v
    (get_or c.in_ok-marks.marks.items v false ≡ true) (c.in_ok-marks.ensures.marks v)
