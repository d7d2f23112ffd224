use Rattle.std.proofs.Common.{arith, ◌≡◌, ◌<◌, ◌∙◌, ℕ, List, ap, get_or, length, subst, sym}
use Rattle.ux_boxes.specs.declared.place.Place.{Place}
use Rattle.ux_boxes.specs.Places.{places_of, place_targets}
use Rattle.ux_admission.specs.Gains.{Gains}
use Rattle.ux_admission.proofs.GainsLemmas.{gains_next, gains_done}
use Rattle.ux_admission.proofs.WaysExact.{IsWayTo, gains_from, target_at}
use Rattle.ux_admission.proofs.ways.push_place.Goals as goal

pub push_target-requires-clause-target : goal.push_target-requires-clause-target
push_target-requires-clause-target c =
    let places = places_of c.args.graphs.now c.args.graph in
    let targets = place_targets places c.args.source in
    let same : c.targets_of-target-items.result.now ≡ targets = c.targets_of-target-items.ensures
    ∙ ap (λ (ps : List Place). place_targets ps c.args.source) c.places_of.ensures in
    let len = ap (λ (ts : List ℕ). length ts) same in
    let below = c.loop-target-test.true in
    subst (λ (ts : List ℕ). get_or ts c.loop-target.target-index 0 < length places) (sym same)
    (target_at c.args.graphs.now c.requires.fit c.args.graph c.args.source
    c.loop-target.target-index c.requires.from c.requires.to (omega (arith, len, below)))

pub loop-target-preserved : goal.loop-target-preserved
loop-target-preserved c =
    let targets = place_targets (places_of c.args.graphs.now c.args.graph) c.args.source in
    let same : c.targets_of-target-items.result.now ≡ targets = c.targets_of-target-items.ensures
    ∙ ap (λ (ps : List Place). place_targets ps c.args.source) c.places_of.ensures in
    gains_next c.args.ways.now.items c.loop-target.ways.items c.push_target.new.ways.items
    c.loop-target.target-index
    (λ k. IsWayTo c.args.graphs.now c.args.graph c.args.source (get_or targets k 0))
    c.loop-target.invariant
    (subst (λ (ts : List ℕ). Gains c.loop-target.ways.items c.push_target.new.ways.items
    (IsWayTo c.args.graphs.now c.args.graph c.args.source
    (get_or ts c.loop-target.target-index 0))) same c.in_ok-push_target.ensures)

pub returns : goal.returns
returns c =
    let targets = place_targets (places_of c.args.graphs.now c.args.graph) c.args.source in
    let same : c.targets_of-target-items.result.now ≡ targets = c.targets_of-target-items.ensures
    ∙ ap (λ (ps : List Place). place_targets ps c.args.source) c.places_of.ensures in
    let len = ap (λ (ts : List ℕ). length ts) same in
    gains_from c.args.graphs.now c.args.ways.now.items c.loop-target.ways.items c.args.graph
    c.args.source c.if-source-eq1.false
    (gains_done c.args.ways.now.items c.loop-target.ways.items c.loop-target.target-index
    (length targets)
    (λ k. IsWayTo c.args.graphs.now c.args.graph c.args.source (get_or targets k 0))
    (omega (arith, len)) (omega (arith, len)) c.loop-target.invariant)
