use Rattle.std.proofs.Common.{arith, ◌<◌, ◌∙◌, length, get_or}
use Rattle.std.proofs.lemmas.List.Elements.{Contains-get_or}
use Rattle.std.proofs.lemmas.Option.{slice_get-get_or}
use Rattle.ux_parts.proofs.OrderingLemmas.{numbers_more}
use Rattle.ux_parts.proofs.ordering.numbers_of.Goals as goal

pub put-requires-clause-from : goal.put-requires-clause-from
put-requires-clause-from c =
    let order = c.args.order.now in
    let lt : c.loop-place.place < length order = omega (arith, c.loop-place-test.true) in
    (c.requires.inside (get_or order c.loop-place.place (0, 0, 0, 0))
    (Contains-get_or order c.loop-place.place (0, 0, 0, 0) lt)).0

pub put-requires-clause-to : goal.put-requires-clause-to
put-requires-clause-to c =
    let order = c.args.order.now in
    let lt : c.loop-place.place < length order = omega (arith, c.loop-place-test.true) in
    let inside = c.requires.inside (get_or order c.loop-place.place (0, 0, 0, 0))
    (Contains-get_or order c.loop-place.place (0, 0, 0, 0) lt) in
    let to = inside.1 in
    let len = c.loop-place.invariant.len in
    omega (arith, to, len)

pub loop-place-preserved : goal.loop-place-preserved
loop-place-preserved c =
    let order = c.args.order.now in
    let place = c.loop-place.place in
    let entry = get_or order place (0, 0, 0, 0) in
    let lt : place < length order = omega (arith, c.loop-place-test.true) in
    record {
      len = c.in_ok-put.ensures.len ∙ c.loop-place.invariant.len;
      numbers = numbers_more order place entry c.loop-place.rows.items c.put.new.rows.items
          (slice_get-get_or order place (0, 0, 0, 0) lt) c.in_ok-put.ensures
          c.loop-place.invariant.numbers;
    }
