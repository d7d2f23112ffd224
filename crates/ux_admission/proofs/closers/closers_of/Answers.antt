use Rattle.std.proofs.Common.{◌∙◌, ℕ, List, [], subst, sym}
use Rattle.std.proofs.lemmas.List.{get_or_default}
use Rattle.ux_boxes.specs.declared.place.Place.{Place}
use Rattle.ux_boxes.specs.Fit.{HasTargetsInside}
use Rattle.ux_admission.proofs.ClosersLemmas.{AreClosersBelow, closers_none, closers_more, closers_all}
use Rattle.ux_admission.proofs.closers.closers_of.Goals as goal

pub push_closers-requires : goal.push_closers-requires
push_closers-requires c = record {
  inside = subst (λ (places : List Place). HasTargetsInside places)
      (sym (c.as_slice.ensures ∙ c.places-item.is))
      (c.requires.inside c.loop-places.places-index c.places-item.result
      c.loop-places-test.true);
}

pub loop-places-preserved : goal.loop-places-preserved
loop-places-preserved c =
    closers_more c.args.graphs.now c.loop-places.places-index c.as_slice.result.now
    c.loop-places.rows.items c.push_closers.new.rows.items c.loop-places-test.true
    (c.as_slice.ensures ∙ (c.places-item.is ∙ get_or_default c.args.graphs.now
    c.loop-places.places-index c.places-item.result [] c.loop-places-test.true))
    c.in_ok-push_closers.ensures c.loop-places.invariant

pub loop-places-init : goal.loop-places-init
loop-places-init c =
    subst (λ (rows : List (List ℕ)). AreClosersBelow c.args.graphs.now 0 rows)
    (sym c.new-rows.ensures.items) (closers_none c.args.graphs.now)

pub returns : goal.returns
returns c =
    closers_all c.args.graphs.now c.loop-places.places-index c.loop-places.rows.items
    c.loop-places-test.false c.loop-places.auto.places-index-end c.loop-places.invariant
