use Rattle.std.proofs.Common.{◌∙◌, ℕ, List, [], subst, sym}
use Rattle.ux_digraph.specs.declared.closing.Rule.{Rule}
use Rattle.ux_digraph.specs.Rules.{AreRulesInside}
use Rattle.ux_admission.specs.Gains.{Gains, SoOfOne}
use Rattle.ux_admission.specs.Ways.{AreEnds, IsRuleOf}
use Rattle.ux_boxes.specs.Numbers.{number_of}
use Rattle.ux_admission.proofs.MarksLemmas.{rules_inside, derived_exactly, rules_by_ways}
use Rattle.ux_admission.proofs.freeness.free_places.Goals as goal

pub closure-requires : goal.closure-requires
closure-requires c = record {
  inside = subst (λ n. AreRulesInside n c.deref.result.now c.deref-2.result.now)
      (sym c.count_of.ensures)
      (rules_inside c.args.graphs.now c.requires.fit c.deref.result.now c.deref-2.result.now
      (rules_by_ways c.args.graphs.now c.args.ways.now c.requires.ways c.deref.result.now
      (subst (λ (rules : List Rule). Gains [] rules (SoOfOne c.args.ways.now IsRuleOf))
      (sym c.deref.ensures.value) c.in_ok-rules.ensures))
      (subst (λ (ends : List ℕ). AreEnds c.args.graphs.now ends) (sym c.deref-2.ensures.value)
      c.in_ok-ends.ensures));
}

pub returns : goal.returns
returns c =
    let by_ways = rules_by_ways c.args.graphs.now c.args.ways.now c.requires.ways
    c.deref.result.now
    (subst (λ (rules : List Rule). Gains [] rules (SoOfOne c.args.ways.now IsRuleOf))
    (sym c.deref.ensures.value) c.in_ok-rules.ensures) in
    let at_ends = subst (λ (ends : List ℕ). AreEnds c.args.graphs.now ends)
    (sym c.deref-2.ensures.value) c.in_ok-ends.ensures in
    record {
      len = c.in_ok-marks.ensures.len ∙ c.count_of.ensures;
      marked = λ g a i.
          let exact = derived_exactly c.args.graphs.now c.requires.fit c.deref.result.now
          c.deref-2.result.now by_ways at_ends g a i in
          let marks = c.in_ok-marks.ensures.marks (number_of c.args.graphs.now g a) in
          (λ m. exact.0 (marks.0 m), λ e. marks.1 (exact.1 e));
    }
