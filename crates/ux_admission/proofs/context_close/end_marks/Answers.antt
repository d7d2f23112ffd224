use Rattle.std.proofs.Common.{arith, ◌≡◌, List, ℕ, length, subst, sym}
use Rattle.ux_digraph.specs.Rules.{AreRulesInside}
use Rattle.ux_digraph.specs.declared.closing.Rule.{Rule}
use Rattle.ux_admission.specs.BadContexts.{AreNextRules}
use Rattle.ux_admission.proofs.EndMarksLemmas.{rules_inside, marks_made}
use Rattle.ux_admission.proofs.context_close.end_marks.Goals as goal

pub closure-requires : goal.closure-requires
closure-requires c =
    let leading = c.args.leading.now in
    let exact = subst (λ (rules : List Rule). AreNextRules leading rules)
    (sym c.deref.ensures.value) c.in_ok-rules.ensures in
    let size : length leading.sources.items ≡ c.len.result = omega arith in
    record {
      inside = subst (λ n. AreRulesInside n c.deref.result.now c.sources_of.result.now) size
          (subst (λ (row : List ℕ). AreRulesInside (length leading.sources.items)
          c.deref.result.now row) (sym c.sources_of.ensures)
          (rules_inside leading c.deref.result.now exact c.requires.inside));
    }

pub returns-clause-marks : goal.returns-clause-marks
returns-clause-marks c =
    let leading = c.args.leading.now in
    let exact = subst (λ (rules : List Rule). AreNextRules leading rules)
    (sym c.deref.ensures.value) c.in_ok-rules.ensures in
    marks_made leading c.deref.result.now exact c.in_ok-marks.marks.items
    c.sources_of.result.now c.sources_of.ensures c.in_ok-marks.ensures.marks
