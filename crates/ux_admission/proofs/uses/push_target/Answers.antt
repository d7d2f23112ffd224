use Rattle.std.proofs.Common.{rules, arith, ◌≡◌, ◌-◌, ◌∙◌, ◌+◌, List, [], false, ap, get_or, length, subst, sym}
use Rattle.std.proofs.lemmas.List.{get_or_default}
use Rattle.ux_net.specs.declared.label.Label.{Label}
use Rattle.ux_boxes.specs.declared.place.Place.{Place}
use Rattle.ux_admission.specs.declared.uses.Link.{Link}
use Rattle.ux_net.specs.Words.{mark_of}
use Rattle.ux_boxes.specs.Places.{places_of, label_lines}
use Rattle.ux_boxes.specs.Fit.{IsFitLine}
use Rattle.ux_boxes.specs.Numbers.{number_of}
use Rattle.ux_admission.specs.Gains.{Gains}
use Rattle.ux_admission.specs.Uses.{IsLineLink, IsLinkAlong}
use Rattle.ux_admission.proofs.GainsLemmas.{gains_next, gains_done}
use Rattle.ux_admission.proofs.UsesLemmas.{row_is, row_room, gains_line}
use Rattle.ux_admission.proofs.WaysExact.{gains_elements, number_at, number_small, line_at}
use Rattle.ux_admission.proofs.uses.push_target.Goals as goal
use Rattle.ux_admission.proofs.uses.push_target.Goals.{After-as_slice}

-- the line that is looked at is one of the target's
here : (c : After-as_slice) → c.as_slice.result.now ≡
    get_or (label_lines (places_of c.args.graphs.now c.args.graph) c.args.target)
    c.loop-line.line-index []
here c =
    let lines = label_lines (places_of c.args.graphs.now c.args.graph) c.args.target in
    let same : c.lines_of-line-items.result.now ≡ lines = c.lines_of-line-items.ensures
    ∙ ap (λ (places : List Place). label_lines places c.args.target) c.places_of.ensures in
    (c.as_slice.ensures ∙ (c.line-item.is ∙ get_or_default c.lines_of-line-items.result.now
    c.loop-line.line-index c.line-item.result [] c.loop-line-test.true))
    ∙ ap (λ (ls : List (List Label)). get_or ls c.loop-line.line-index []) same

-- the row of the target, and a number for each place in it
row : (c : After-as_slice) → c.row_at-closed.result.now ≡
    get_or c.args.closers.now (number_of c.args.graphs.now c.args.graph c.args.target) []
row c =
    row_is c.args.graphs.now c.args.offsets.now c.requires.offsets c.args.closers.now
    c.requires.closers c.args.graph c.args.target c.requires.from c.requires.to
    c.requires.target c.row_at-closed.result.now c.row_at-closed.ensures

-- the line is fit
fit : (c : After-as_slice) → IsFitLine (length c.args.offsets.now - 1)
    (get_or (label_lines (places_of c.args.graphs.now c.args.graph) c.args.target)
    c.loop-line.line-index [])
fit c =
    let lines = label_lines (places_of c.args.graphs.now c.args.graph) c.args.target in
    let same : c.lines_of-line-items.result.now ≡ lines = c.lines_of-line-items.ensures
    ∙ ap (λ (places : List Place). label_lines places c.args.target) c.places_of.ensures in
    let len = ap (λ (ls : List (List Label)). length ls) same in
    let below = c.loop-line-test.true in
    line_at c.args.graphs.now c.requires.fit c.args.offsets.now c.requires.offsets c.args.graph
    c.args.target c.loop-line.line-index c.requires.from c.requires.to (omega (arith, len, below))

pub overflow_add-step : goal.overflow_add-step
overflow_add-step c =
    let small = number_small c.args.graphs.now c.args.offsets.now c.requires.offsets c.args.graph
    c.args.source c.requires.from c.requires.to c.requires.source in
    search rules

pub overflow_add-step-2 : goal.overflow_add-step-2
overflow_add-step-2 c =
    let small = number_small c.args.graphs.now c.args.offsets.now c.requires.offsets c.args.graph
    c.args.target c.requires.from c.requires.to c.requires.target in
    search rules

pub push_line-requires : goal.push_line-requires
push_line-requires c = record {
  fit = subst (λ (line : List Label). IsFitLine (length c.args.offsets.now - 1) line)
      (sym (here c)) (fit c);
  room = row_room c.args.graphs.now c.args.offsets.now c.requires.offsets c.args.closers.now
      c.requires.closers c.args.graph c.args.target c.requires.from c.requires.to
      c.requires.target c.row_at-closed.result.now (row c);
}

pub loop-line-preserved : goal.loop-line-preserved
loop-line-preserved c =
    let at = (goal.at.loop-line-preserved c).After-as_slice in
    let graphs = c.args.graphs.now in
    let offsets = c.args.offsets.now in
    let len = c.requires.offsets.len in
    let count : length offsets - 1 ≡ length graphs = omega (arith, len) in
    let base = get_or offsets (c.args.graph - 1) 0 in
    let step : Link = record {
      graph = c.args.graph;
      from = base + c.args.source;
      to = base + c.args.target;
      is_negative = false;
    } in
    let lines = label_lines (places_of graphs c.args.graph) c.args.target in
    let line = get_or lines c.loop-line.line-index [] in
    gains_next c.args.links.now.items c.loop-line.links.items c.push_line.new.links.items
    c.loop-line.line-index
    (λ k. IsLinkAlong graphs c.args.graph c.args.source c.args.target (get_or lines k []))
    c.loop-line.invariant
    (gains_line graphs offsets c.requires.offsets c.args.closers.now c.requires.closers
    c.args.graph c.args.source c.args.target c.requires.target line
    (subst (λ n. IsFitLine n line) count (fit at)) base
    (λ n. number_at graphs offsets c.requires.offsets c.args.graph n c.requires.from
    c.requires.to) c.row_at-closed.result.now (row at) c.loop-line.links.items
    c.push_line.new.links.items
    (subst (λ (l : List Label). Gains c.loop-line.links.items c.push_line.new.links.items
    (IsLineLink offsets base step l c.row_at-closed.result.now (mark_of l))) (here at)
    c.in_ok-push_line.ensures))

pub returns : goal.returns
returns c =
    let lines = label_lines (places_of c.args.graphs.now c.args.graph) c.args.target in
    let same : c.lines_of-line-items.result.now ≡ lines = c.lines_of-line-items.ensures
    ∙ ap (λ (places : List Place). label_lines places c.args.target) c.places_of.ensures in
    let len = ap (λ (ls : List (List Label)). length ls) same in
    gains_elements c.args.links.now.items c.loop-line.links.items lines []
    (IsLinkAlong c.args.graphs.now c.args.graph c.args.source c.args.target)
    (gains_done c.args.links.now.items c.loop-line.links.items c.loop-line.line-index (length lines)
    (λ k. IsLinkAlong c.args.graphs.now c.args.graph c.args.source c.args.target
    (get_or lines k [])) (omega (arith, len)) (omega (arith, len)) c.loop-line.invariant)
