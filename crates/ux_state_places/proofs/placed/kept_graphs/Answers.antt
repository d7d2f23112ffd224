use Rattle.std.proofs.Common.{length, subst, ◌∙◌}
use Rattle.std.proofs.lemmas.Iterator.Adapters.{YieldsList-from_vec}
use Rattle.std.proofs.lemmas.Iterator.Consumers.{YieldsList-turn, YieldsList-end}
use Rattle.std.proofs.lemmas.List.{length_push}
use Rattle.ux_state_places.specs.Placing.{AreKeptRows}
use Rattle.ux_state_places.proofs.PlacingLemmas.{marks_fit, marks_behind, kept_pushed}
use Rattle.ux_state_places.proofs.placed.kept_graphs.Goals as goal

pub split_at-requires : goal.split_at-requires
split_at-requires c =
    let gives = c.into_iter-places-iterator.ensures.into_iter_gives in
    let turn =
    YieldsList-turn (YieldsList-from_vec c.args.raw.items gives.0 (gives.1 ∙ c.args.raw.ok.0))
    c.loop-places.yielded _ c.loop-places.yielded_by c.next.result c.next.new.self c.in-Some.places
    c.in-Some.is c.next.ensures.steps in
    marks_fit c.args.raw.items c.args.marks.now c.loop-places.rest.now
    (length c.loop-places.yielded) c.in-Some.places c.as_slice.result.now c.requires.whole turn
    c.as_slice.ensures c.loop-places.invariant.rest

pub loop-places-preserved : goal.loop-places-preserved
loop-places-preserved c =
    let gives = c.into_iter-places-iterator.ensures.into_iter_gives in
    let turn =
    YieldsList-turn (YieldsList-from_vec c.args.raw.items gives.0 (gives.1 ∙ c.args.raw.ok.0))
    c.loop-places.yielded _ c.loop-places.yielded_by c.next.result c.next.new.self c.in-Some.places
    c.in-Some.is c.next.ensures.steps in
    let next = length_push c.loop-places.yielded c.in-Some.places in
    record {
      rest = marks_behind c.args.raw.items c.args.marks.now c.loop-places.rest.now
          c.split_at.result.1.now (length c.loop-places.yielded) _ c.in-Some.places
          c.as_slice.result.now turn c.as_slice.ensures next c.loop-places.invariant.rest
          c.split_at.ensures.back;
      kept = kept_pushed c.args.raw.items c.args.marks.now c.loop-places.rest.now
          c.split_at.result.0.now (length c.loop-places.yielded) _ c.loop-places.kept.items
          c.push.new.self.items c.in-Some.places c.as_slice.result.now
          c.in_ok-kept_places.field-0.items c.new.result turn c.loop-places.invariant.kept
          c.as_slice.ensures next c.loop-places.invariant.rest c.split_at.ensures.front
          c.in_ok-kept_places.ensures c.new.ensures c.in_ok-push.ensures.items;
    }

pub returns : goal.returns
returns c =
    let gives = c.into_iter-places-iterator.ensures.into_iter_gives in
    let all =
    YieldsList-end (YieldsList-from_vec c.args.raw.items gives.0 (gives.1 ∙ c.args.raw.ok.0))
    c.loop-places.yielded _ c.loop-places.yielded_by c.next.result c.next.new.self c.in-None.is
    c.next.ensures.steps in
    subst (λ n. AreKeptRows c.args.raw.items c.args.marks.now n c.loop-places.kept.items) all.1
    c.loop-places.invariant.kept
