use Rattle.std.proofs.Common.{rules, arith, ◌≡◌, ◌+◌, ◌-◌, ◌∙◌, List, [], ap, get_or, length, subst, sym}
use Rattle.std.proofs.lemmas.List.{get_or_default}
use Rattle.ux_net.specs.declared.label.Label.{Label}
use Rattle.ux_boxes.specs.declared.place.Place.{Place}
use Rattle.ux_boxes.specs.Places.{places_of, label_lines}
use Rattle.ux_boxes.specs.Fit.{IsFitLine}
use Rattle.ux_admission.specs.Gains.{Gains}
use Rattle.ux_admission.specs.Ways.{IsWayAlong}
use Rattle.ux_admission.proofs.GainsLemmas.{gains_next, gains_done}
use Rattle.ux_admission.proofs.WaysExact.{gains_elements, number_at, number_small, line_at, row_at, row_room}
use Rattle.ux_admission.proofs.ways.push_target.Goals as goal

pub overflow_add-step : goal.overflow_add-step
overflow_add-step c =
    let small = number_small c.args.graphs.now c.args.offsets.now c.requires.offsets c.args.graph
    c.args.source c.requires.from c.requires.to c.requires.source in
    search rules

pub overflow_add-step-2 : goal.overflow_add-step-2
overflow_add-step-2 c =
    let small = number_small c.args.graphs.now c.args.offsets.now c.requires.offsets c.args.graph
    c.args.target c.requires.from c.requires.to c.requires.target in
    search rules

pub push_line-requires : goal.push_line-requires
push_line-requires c =
    let lines = label_lines (places_of c.args.graphs.now c.args.graph) c.args.target in
    let same : c.lines_of-line-items.result.now ≡ lines = c.lines_of-line-items.ensures
    ∙ ap (λ (places : List Place). label_lines places c.args.target) c.places_of.ensures in
    let here : c.as_slice.result.now ≡ get_or lines c.loop-line.line-index [] =
    (c.as_slice.ensures ∙ (c.line-item.is ∙ get_or_default c.lines_of-line-items.result.now
    c.loop-line.line-index c.line-item.result [] c.loop-line-test.true))
    ∙ ap (λ (ls : List (List Label)). get_or ls c.loop-line.line-index []) same in
    let len = ap (λ (ls : List (List Label)). length ls) same in
    let below = c.loop-line-test.true in
    record {
      fit = subst (λ (line : List Label). IsFitLine (length c.args.offsets.now - 1) line) (sym here)
          (line_at c.args.graphs.now c.requires.fit c.args.offsets.now c.requires.offsets
          c.args.graph c.args.target c.loop-line.line-index c.requires.from c.requires.to
          (omega (arith, len, below)));
      target = omega arith;
      room = row_room c.args.graphs.now c.args.offsets.now c.requires.offsets c.args.graph
          c.args.target c.row_at-row.result.now c.requires.from c.requires.to
          (get_or c.args.offsets.now (c.args.graph - 1) 0 + c.args.target - c.args.target)
          (omega arith)
          (row_at c.args.graphs.now c.args.closers.now c.requires.closers c.args.graph c.args.target
          (get_or c.args.offsets.now (c.args.graph - 1) 0 + c.args.target) c.row_at-row.result.now
          c.requires.target
          (number_at c.args.graphs.now c.args.offsets.now c.requires.offsets c.args.graph
          c.args.target c.requires.from c.requires.to) c.row_at-row.ensures);
    }

pub loop-line-preserved : goal.loop-line-preserved
loop-line-preserved c =
    let lines = label_lines (places_of c.args.graphs.now c.args.graph) c.args.target in
    let same : c.lines_of-line-items.result.now ≡ lines = c.lines_of-line-items.ensures
    ∙ ap (λ (places : List Place). label_lines places c.args.target) c.places_of.ensures in
    let here : c.as_slice.result.now ≡ get_or lines c.loop-line.line-index [] =
    (c.as_slice.ensures ∙ (c.line-item.is ∙ get_or_default c.lines_of-line-items.result.now
    c.loop-line.line-index c.line-item.result [] c.loop-line-test.true))
    ∙ ap (λ (ls : List (List Label)). get_or ls c.loop-line.line-index []) same in
    gains_next c.args.ways.now.items c.loop-line.ways.items c.push_line.new.ways.items
    c.loop-line.line-index
    (λ k. IsWayAlong c.args.graphs.now c.args.graph c.args.source c.args.target
    (get_or lines k [])) c.loop-line.invariant
    (subst (λ (line : List Label). Gains c.loop-line.ways.items c.push_line.new.ways.items
    (IsWayAlong c.args.graphs.now c.args.graph c.args.source c.args.target line)) here
    (c.in_ok-push_line.ensures c.args.graphs.now c.requires.offsets
    (number_at c.args.graphs.now c.args.offsets.now c.requires.offsets c.args.graph
    c.args.source c.requires.from c.requires.to)
    (number_at c.args.graphs.now c.args.offsets.now c.requires.offsets c.args.graph
    c.args.target c.requires.from c.requires.to)
    (row_at c.args.graphs.now c.args.closers.now c.requires.closers c.args.graph c.args.target
    (get_or c.args.offsets.now (c.args.graph - 1) 0 + c.args.target) c.row_at-row.result.now
    c.requires.target
    (number_at c.args.graphs.now c.args.offsets.now c.requires.offsets c.args.graph
    c.args.target c.requires.from c.requires.to) c.row_at-row.ensures)))

pub returns : goal.returns
returns c =
    let lines = label_lines (places_of c.args.graphs.now c.args.graph) c.args.target in
    let same : c.lines_of-line-items.result.now ≡ lines = c.lines_of-line-items.ensures
    ∙ ap (λ (places : List Place). label_lines places c.args.target) c.places_of.ensures in
    let len = ap (λ (ls : List (List Label)). length ls) same in
    gains_elements c.args.ways.now.items c.loop-line.ways.items lines []
    (IsWayAlong c.args.graphs.now c.args.graph c.args.source c.args.target)
    (gains_done c.args.ways.now.items c.loop-line.ways.items c.loop-line.line-index (length lines)
    (λ k. IsWayAlong c.args.graphs.now c.args.graph c.args.source c.args.target
    (get_or lines k [])) (omega (arith, len)) (omega (arith, len)) c.loop-line.invariant)
