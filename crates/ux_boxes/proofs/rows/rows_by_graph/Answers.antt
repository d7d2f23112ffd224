use Rattle.std.proofs.Common.{◌≡◌, ◌∙◌, [], get_or, arith}
use Rattle.std.proofs.lemmas.Grind.{common_steps}
use Rattle.std.proofs.lemmas.List.{get_or_default}
use Rattle.ux_boxes.proofs.CutLemmas.{split_fits, rest_next, rows_next}
use Rattle.ux_boxes.proofs.rows.rows_by_graph.Goals as goal

pub split_at-requires : goal.split_at-requires
split_at-requires g c =
    split_fits c.args.graphs.now c.args.items.now c.loop-places.rest.now
    c.loop-places.places-index c.as_slice.result.now c.requires.whole c.loop-places-test.true
    (c.as_slice.ensures ∙ (c.places-item.is ∙ get_or_default c.args.graphs.now
    c.loop-places.places-index c.places-item.result [] c.loop-places-test.true))
    c.loop-places.invariant.rest

pub loop-places-preserved : goal.loop-places-preserved
loop-places-preserved g c =
    let at : c.as_slice.result.now ≡ get_or c.args.graphs.now c.loop-places.places-index [] =
    c.as_slice.ensures ∙ (c.places-item.is ∙ get_or_default c.args.graphs.now
    c.loop-places.places-index c.places-item.result [] c.loop-places-test.true) in
    record {
      rest = rest_next c.args.graphs.now c.args.items.now c.loop-places.rest.now
          c.split_at.result.1.now c.loop-places.places-index c.as_slice.result.now
          c.loop-places-test.true at c.loop-places.invariant.rest c.split_at.ensures.back;
      rows = rows_next c.args.graphs.now c.args.items.now c.loop-places.rest.now
          c.new.result c.loop-places.rows.items c.push.new.self.items
          c.loop-places.places-index c.as_slice.result.now c.loop-places-test.true at
          c.loop-places.invariant.rest
          (c.new.ensures ∙ (c.in_ok-copied.ensures ∙ c.split_at.ensures.front))
          c.loop-places.invariant.rows c.in_ok-push.ensures.items;
    }

pub returns : goal.returns
returns g c = grind (arith, common_steps)
