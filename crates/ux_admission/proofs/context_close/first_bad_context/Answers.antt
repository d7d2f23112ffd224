use Rattle.std.proofs.Common.{◌≡◌, ◌∙◌, ℕ, List, [], subst, sym}
use Rattle.std.specs.Prelude.{Option, None}
use Rattle.std.proofs.lemmas.List.{get_or_default}
use Rattle.ux_boxes.specs.declared.place.Place.{Place}
use Rattle.ux_admission.specs.BadContexts.{IsBad, IsLeastOf}
use Rattle.ux_admission.specs.Leading.{IsLeading}
use Rattle.ux_boxes.specs.Fit.{HasTargetsInside}
use Rattle.ux_admission.proofs.ContextLemmas.{good_more, good_all, bad_first, rows_of_graph}
use Rattle.ux_boxes.proofs.CutLemmas.{split_fits, rest_next}
use Rattle.ux_admission.proofs.context_close.first_bad_context.Goals as goal

pub split_at-requires : goal.split_at-requires
split_at-requires c =
    split_fits c.args.graphs.now c.args.closers.now c.loop-number.rest.now c.loop-number.number
    c.as_slice.result.now c.requires.closers.len c.loop-number-test.true
    (c.as_slice.ensures ∙ (c.index-graphs-number.is ∙ get_or_default c.args.graphs.now
    c.loop-number.number c.index-graphs-number.result [] c.loop-number-test.true))
    c.loop-number.invariant.rest

pub first_bad-requires-clause-inside : goal.first_bad-requires-clause-inside
first_bad-requires-clause-inside c =
    subst (λ (places : List Place). HasTargetsInside places)
    (sym (c.as_slice-in-loop-number.ensures ∙ c.index-graphs-number.is))
    (c.requires.inside c.loop-number.number c.index-graphs-number.result
    c.loop-number-test.true)

pub first_bad-requires-clause-rows : goal.first_bad-requires-clause-rows
first_bad-requires-clause-rows c = λ leading is.
    let same : c.as_slice.result.now ≡ c.as_slice-in-loop-number.result.now =
    c.as_slice.ensures ∙ sym c.as_slice-in-loop-number.ensures in
    rows_of_graph c.args.graphs.now c.args.closers.now c.requires.closers c.loop-number.number
    c.as_slice.result.now leading c.loop-number.rest.now c.split_at.result.0.now
    c.loop-number-test.true
    (c.as_slice.ensures ∙ (c.index-graphs-number.is ∙ get_or_default c.args.graphs.now
    c.loop-number.number c.index-graphs-number.result [] c.loop-number-test.true))
    (subst (λ (places : List Place). IsLeading places leading) (sym same) is)
    c.loop-number.invariant.rest c.split_at.ensures.front

pub returns-in-Some : goal.returns-in-Some
returns-in-Some c =
    let found = c.in_ok-node.ensures in
    let least = subst (λ (o : Option ℕ). IsLeastOf (IsBad found.0) o) c.in-Some.is found.2 in
    bad_first c.args.graphs.now c.loop-number.number c.as_slice-in-loop-number.result.now found.0
    c.loop-number-test.true
    (c.as_slice-in-loop-number.ensures ∙ (c.index-graphs-number.is ∙ get_or_default
    c.args.graphs.now c.loop-number.number c.index-graphs-number.result []
    c.loop-number-test.true)) found.1 c.in-Some.node least.0 least.1 c.loop-number.invariant.good

pub loop-number-preserved : goal.loop-number-preserved
loop-number-preserved c =
    let found = c.in_ok-node.ensures in
    let none : c.in_ok-node.field-0 ≡ None = c.in_default.is in
    let least = subst (λ (o : Option ℕ). IsLeastOf (IsBad found.0) o) none found.2 in
    record {
      rest = rest_next c.args.graphs.now c.args.closers.now c.loop-number.rest.now
          c.split_at.result.1.now c.loop-number.number c.as_slice.result.now
          c.loop-number-test.true
          (c.as_slice.ensures ∙ (c.index-graphs-number.is ∙ get_or_default c.args.graphs.now
          c.loop-number.number c.index-graphs-number.result [] c.loop-number-test.true))
          c.loop-number.invariant.rest c.split_at.ensures.back;
      good = good_more c.args.graphs.now c.loop-number.number
          c.as_slice-in-loop-number.result.now found.0 c.loop-number-test.true
          (c.as_slice-in-loop-number.ensures ∙ (c.index-graphs-number.is ∙ get_or_default
          c.args.graphs.now c.loop-number.number c.index-graphs-number.result []
          c.loop-number-test.true)) found.1 least c.loop-number.invariant.good;
    }

pub returns : goal.returns
returns c =
    good_all c.args.graphs.now c.loop-number.number c.loop-number-test.false
    c.loop-number.invariant.good
