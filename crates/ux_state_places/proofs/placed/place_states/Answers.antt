use Rattle.std.proofs.Common.{List, Bool, All, length, subst, sym}
use Rattle.ux_boxes.specs.declared.place.Place.{Place}
use Rattle.ux_boxes.specs.Fit.{IsFit}
use Rattle.ux_state_places.specs.Meeting.{AreMetMarks, AreOpenedInto}
use Rattle.ux_state_places.specs.Placing.{AreKeptRows}
use Rattle.ux_state_places.proofs.PlacedLaw.{placed_stands, placed_fit, placed_loops}
use Rattle.ux_state_places.proofs.PlacingLemmas.{raw_fit, raw_opened, placed_are}
use Rattle.ux_state_places.proofs.placed.place_states.Goals as goal

pub met_marks-requires-clause-fit : goal.met_marks-requires-clause-fit
met_marks-requires-clause-fit c =
    let raw = c.in_ok-raw.raw in
    subst (λ (ps : List (List Place)). All (IsFit (length ps)) ps) (sym c.deref.ensures.value)
    (raw_fit c.args.graphs.now raw.places.items raw.states.items raw.hubs.items c.in_ok-raw.ensures
    c.requires.inside)

pub met_marks-requires-clause-opened : goal.met_marks-requires-clause-opened
met_marks-requires-clause-opened c =
    let raw = c.in_ok-raw.raw in
    subst AreOpenedInto (sym c.deref.ensures.value)
    (raw_opened c.args.graphs.now raw.places.items raw.states.items raw.hubs.items c.in_ok-raw.ensures)

pub returns-clause-stand : goal.returns-clause-stand
returns-clause-stand c =
    let raw = c.in_ok-raw.raw in
    let graphs = c.args.graphs.now in
    let met = subst (λ (ps : List (List Place)). AreMetMarks ps c.in_ok-marks.marks.items)
    c.deref.ensures.value c.in_ok-marks.ensures.marks in
    let kept = subst (λ (marks : List Bool). AreKeptRows raw.places.items marks
    (length raw.places.items) c.in_ok-kept_graphs.field-0.items) c.deref-2.ensures.value
    c.in_ok-kept_graphs.ensures in
    placed_stands graphs c.in_ok-kept_graphs.field-0.items raw.states.items raw.hubs.items
    (placed_are graphs raw.places.items raw.states.items raw.hubs.items c.in_ok-raw.ensures
    c.in_ok-marks.marks.items c.in_ok-kept_graphs.field-0.items met kept)

pub returns-clause-fit : goal.returns-clause-fit
returns-clause-fit c =
    let raw = c.in_ok-raw.raw in
    let graphs = c.args.graphs.now in
    let met = subst (λ (ps : List (List Place)). AreMetMarks ps c.in_ok-marks.marks.items)
    c.deref.ensures.value c.in_ok-marks.ensures.marks in
    let kept = subst (λ (marks : List Bool). AreKeptRows raw.places.items marks
    (length raw.places.items) c.in_ok-kept_graphs.field-0.items) c.deref-2.ensures.value
    c.in_ok-kept_graphs.ensures in
    placed_fit graphs c.in_ok-kept_graphs.field-0.items raw.states.items raw.hubs.items
    (placed_are graphs raw.places.items raw.states.items raw.hubs.items c.in_ok-raw.ensures
    c.in_ok-marks.marks.items c.in_ok-kept_graphs.field-0.items met kept) c.requires.inside

pub returns-clause-met : goal.returns-clause-met
returns-clause-met c =
    let raw = c.in_ok-raw.raw in
    let graphs = c.args.graphs.now in
    let met = subst (λ (ps : List (List Place)). AreMetMarks ps c.in_ok-marks.marks.items)
    c.deref.ensures.value c.in_ok-marks.ensures.marks in
    let kept = subst (λ (marks : List Bool). AreKeptRows raw.places.items marks
    (length raw.places.items) c.in_ok-kept_graphs.field-0.items) c.deref-2.ensures.value
    c.in_ok-kept_graphs.ensures in
    placed_loops graphs c.in_ok-kept_graphs.field-0.items raw.states.items raw.hubs.items
    (placed_are graphs raw.places.items raw.states.items raw.hubs.items c.in_ok-raw.ensures
    c.in_ok-marks.marks.items c.in_ok-kept_graphs.field-0.items met kept)
