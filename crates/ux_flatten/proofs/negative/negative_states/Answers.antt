use Rattle.std.proofs.Common.{arith, ◌≡◌, ◌++◌, ◌∷◌, ◌∙◌, Bool, List, [], ap, length, subst, subst₂, sym}
use Rattle.std.proofs.lemmas.List.{length_push}
use Rattle.ux_boxes.specs.declared.place.Place.{Place}
use Rattle.ux_boxes.specs.Numbers.{AreOffsets}
use Rattle.ux_admission.specs.Closers.{AreClosers}
use Rattle.ux_state_places.proofs.AdmittedLaws.{all_inside, fit_now}
use Rattle.ux_flatten.proofs.RowsLaw.{few_states, negative_row, own_offset, own_row, row_inside, row_more, row_room}
use Rattle.ux_flatten.proofs.WordsLaw.{stay_inside}
use Rattle.ux_flatten.proofs.negative.negative_states.Goals as goal

pub closers_of-requires : goal.closers_of-requires
closers_of-requires c = record {
  inside = all_inside c.deref.result.now
      (fit_now c.deref.result.now c.in_ok-placed.placed.places.items c.deref.ensures.value
      c.in_ok-placed.ensures.fit);
}

pub negative_in-requires-clause-few : goal.negative_in-requires-clause-few
negative_in-requires-clause-few c =
    few_states c.args.graphs.now c.requires.inside c.loop-graph.graph-index c.graph-item.result c.loop-graph-test.true c.graph-item.is
    c.as_slice.result.now c.as_slice.ensures

pub negative_in-requires-clause-inside : goal.negative_in-requires-clause-inside
negative_in-requires-clause-inside c =
    stay_inside c.args.graphs.now c.loop-graph.graph-index c.graph-item.result
    c.loop-graph-test.true c.graph-item.is c.requires.inside c.as_slice.result.now c.as_slice.ensures

pub negative_in-requires-clause-stand : goal.negative_in-requires-clause-stand
negative_in-requires-clause-stand c =
    let number : c.len-number.result ≡ c.loop-graph.graph-index = omega (
      arith,
      c.len-number.ensures,
      c.loop-graph.invariant.count,
      c.loop-graph.rows.ok.0,
    ) in
    let own = own_row c.in_ok-placed.placed.states.items c.deref-in-loop-graph.result.now
    c.len-number.result c.loop-graph.graph-index c.row_at-stands.result.now
    c.deref-in-loop-graph.ensures.value number c.row_at-stands.ensures in
    row_inside c.args.graphs.now c.requires.inside c.in_ok-placed.placed.places.items c.in_ok-placed.placed.states.items
    c.in_ok-placed.placed.hubs.items c.in_ok-placed.ensures.stand
    c.loop-graph.graph-index c.graph-item.result c.loop-graph-test.true c.graph-item.is
    c.as_slice.result.now c.as_slice.ensures
    c.row_at-stands.result.now own

pub negative_in-requires-clause-room : goal.negative_in-requires-clause-room
negative_in-requires-clause-room c =
    let number : c.len-number.result ≡ c.loop-graph.graph-index = omega (
      arith,
      c.len-number.ensures,
      c.loop-graph.invariant.count,
      c.loop-graph.rows.ok.0,
    ) in
    let own = own_row c.in_ok-placed.placed.states.items c.deref-in-loop-graph.result.now
    c.len-number.result c.loop-graph.graph-index c.row_at-stands.result.now
    c.deref-in-loop-graph.ensures.value number c.row_at-stands.ensures in
    let offsets = subst (λ (l : List (List Place)). AreOffsets l c.in_ok-offsets.offsets.items)
    c.deref-2.ensures.value c.in_ok-offsets.ensures in
    let offset = own_offset c.in_ok-offsets.offsets.items c.len-number.result
    c.loop-graph.graph-index c.index-before.result.now number
    (omega (arith, offsets.len, c.in_ok-placed.ensures.stand.count, c.loop-graph-test.true))
    c.index-before.ensures in
    row_room c.args.graphs.now c.requires.inside c.in_ok-placed.placed.places.items c.in_ok-placed.placed.states.items
    c.in_ok-placed.placed.hubs.items c.in_ok-placed.ensures.stand
    c.loop-graph.graph-index c.graph-item.result c.loop-graph-test.true c.graph-item.is
    c.as_slice.result.now c.as_slice.ensures
    c.row_at-stands.result.now own c.in_ok-offsets.offsets.items offsets c.index-before.result.now
    offset

pub loop-graph-preserved : goal.loop-graph-preserved
loop-graph-preserved c =
    let list : List (List Bool) = c.loop-graph.rows.items in
    let marks : List Bool = c.in_ok-row.row.items in
    let grown : c.push.new.self.items ≡ list ++ marks ∷ [] =
    c.in_ok-push.ensures.items ∙ ap (λ (r : List Bool). list ++ r ∷ []) c.new.ensures in
    let number : c.len-number.result ≡ c.loop-graph.graph-index = omega (
      arith,
      c.len-number.ensures,
      c.loop-graph.invariant.count,
      c.loop-graph.rows.ok.0,
    ) in
    let own = own_row c.in_ok-placed.placed.states.items c.deref-in-loop-graph.result.now
    c.len-number.result c.loop-graph.graph-index c.row_at-stands.result.now
    c.deref-in-loop-graph.ensures.value number c.row_at-stands.ensures in
    let offsets = subst (λ (l : List (List Place)). AreOffsets l c.in_ok-offsets.offsets.items)
    c.deref-2.ensures.value c.in_ok-offsets.ensures in
    let offset = own_offset c.in_ok-offsets.offsets.items c.len-number.result
    c.loop-graph.graph-index c.index-before.result.now number
    (omega (arith, offsets.len, c.in_ok-placed.ensures.stand.count, c.loop-graph-test.true))
    c.index-before.ensures in
    let closers = subst₂ AreClosers c.deref.ensures.value (sym c.deref-in-loop-graph-2.ensures.value)
    c.in_ok-closers.ensures in
    record {
      count = omega (
        arith,
        ap length grown,
        length_push list marks,
        c.loop-graph.invariant.count,
      );
      row = λ k a lt. row_more c.args.graphs.now c.loop-graph.graph-index list c.push.new.self.items marks
          c.loop-graph.invariant.count grown (λ j lt a. c.loop-graph.invariant.row j a lt)
          (negative_row c.args.graphs.now c.requires.inside c.in_ok-placed.placed.places.items c.in_ok-placed.placed.states.items
          c.in_ok-placed.placed.hubs.items c.in_ok-placed.ensures.stand
          c.loop-graph.graph-index c.graph-item.result c.loop-graph-test.true c.graph-item.is
          c.as_slice.result.now c.as_slice.ensures
          c.row_at-stands.result.now own c.in_ok-offsets.offsets.items offsets
          c.index-before.result.now offset c.deref-in-loop-graph-2.result.now closers marks
          c.in_ok-row.ensures) k lt a;
    }
