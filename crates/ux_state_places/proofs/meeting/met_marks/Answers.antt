use Rattle.std.proofs.Common.{List, ℕ, subst, sym}
use Rattle.std.proofs.lemmas.Result.{IfOk-weaker}
use Rattle.ux_digraph.specs.Rules.{AreRulesInside}
use Rattle.ux_digraph.specs.declared.closing.Rule.{Rule}
use Rattle.ux_admission.specs.declared.uses.Link.{Link}
use Rattle.ux_state_places.specs.Meeting.{AreLinkRules, AreUnitNumbers}
use Rattle.ux_state_places.proofs.AdmittedLaws.{all_inside}
use Rattle.ux_state_places.proofs.MeetingLemmas.{rules_inside, units_are}
use Rattle.ux_state_places.proofs.MetLaw.{marks_met}
use Rattle.ux_state_places.proofs.meeting.met_marks.Goals as goal

pub closers_of-requires : goal.closers_of-requires
closers_of-requires c = record { inside = all_inside c.args.graphs.now c.requires.fit }

pub closure-requires : goal.closure-requires
closure-requires c =
    let graphs = c.args.graphs.now in
    let links = c.in_ok-links.links.items in
    let of_links = subst (λ (rules : List Rule). AreLinkRules links rules)
    (sym c.deref-6.ensures.value)
    (subst (λ (l : List Link). AreLinkRules l c.in_ok-rules.rules.items) c.deref-3.ensures.value
    c.in_ok-rules.ensures) in
    let of_units = subst (λ (units : List ℕ). AreUnitNumbers graphs units)
    (sym c.deref-7.ensures.value)
    (units_are graphs c.requires.fit c.in_ok-units.units.items c.requires.opened
    c.in_ok-units.ensures) in
    record {
      inside = subst (λ n. AreRulesInside n c.deref-6.result.now c.deref-7.result.now)
          (sym c.count_of.ensures)
          (rules_inside graphs c.requires.fit links c.deref-6.result.now c.deref-7.result.now
          c.in_ok-links.ensures of_links of_units);
    }

pub returns-clause-marks : goal.returns-clause-marks
returns-clause-marks c =
    let graphs = c.args.graphs.now in
    let links = c.in_ok-links.links.items in
    let of_links = subst (λ (rules : List Rule). AreLinkRules links rules)
    (sym c.deref-6.ensures.value)
    (subst (λ (l : List Link). AreLinkRules l c.in_ok-rules.rules.items) c.deref-3.ensures.value
    c.in_ok-rules.ensures) in
    let of_units = subst (λ (units : List ℕ). AreUnitNumbers graphs units)
    (sym c.deref-7.ensures.value)
    (units_are graphs c.requires.fit c.in_ok-units.units.items c.requires.opened
    c.in_ok-units.ensures) in
    IfOk-weaker c.closure.result _ _ (λ marks h.
    marks_met graphs c.requires.fit links c.in_ok-links.ensures c.deref-6.result.now
    c.deref-7.result.now of_links of_units marks.items h) c.closure.ensures.marks
