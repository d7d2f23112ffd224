use Rattle.std.proofs.Common.{[], List, ℕ, subst, sym}
use Rattle.std.specs.Prelude.{slice_get}
use Rattle.ux_net.specs.declared.state.Edge.{Edge}
use Rattle.ux_tokens.specs.Numbers.{different_texts}
use Rattle.ux_walk.specs.Courses.{IsOverSome, IsOverSomeAt}
use Rattle.ux_walk.specs.Configurations.{AddsFrom}
use Rattle.ux_walk.proofs.Results.{on_ok}
use Rattle.ux_walk.proofs.LookUpsLemmas.{adds_listed, kept_enough}
use Rattle.ux_walk.proofs.reached.Reached.follow_state.Goals as goal

pub returns-in_err-meet-clause-sound : goal.returns-in_err-meet-clause-sound
returns-in_err-meet-clause-sound g c = λ net found sound.
    c.meet.ensures net c.args.state.now found (sym c.as_slice-edges.ensures) sound

pub returns-in_default-clause-sound : goal.returns-in_default-clause-sound
returns-in_default-clause-sound g c = λ net found sound.
    c.meet.ensures net c.args.state.now found (sym c.as_slice-edges.ensures) sound

pub returns-in_err-places-clause-sound : goal.returns-in_err-places-clause-sound
returns-in_err-places-clause-sound g c = λ net found sound.
    c.meet.ensures net c.args.state.now found (sym c.as_slice-edges.ensures) sound

pub returns-clause-sound : goal.returns-clause-sound
returns-clause-sound g c = λ net found sound.
    c.meet.ensures net c.args.state.now found (sym c.as_slice-edges.ensures) sound

pub returns-then-not-has_index-clause-adds : goal.returns-then-not-has_index-clause-adds
returns-then-not-has_index-clause-adds g c = on_ok c.follow_edges.result _ _
    (λ adds net found sound. subst (λ (l : List Edge).
    AddsFrom c.args.self.now c.follow_edges.new.self c.args.config (λ before.
    IsOverSome c.args.masked.now.alphabet.now c.args.masked.now.text.now
    c.args.masked.now.applied.now (g.C.Contexts.applies c.args.contexts.now) c.args.config.here []
    c.args.config.at before l)) c.as_slice-edges.ensures adds) c.follow_edges.ensures

pub returns-in_default-clause-adds : goal.returns-in_default-clause-adds
returns-in_default-clause-adds g c = on_ok c.follow_edges-in_default.result _ _
    (λ adds net found sound. subst (λ (l : List Edge).
    AddsFrom c.args.self.now c.follow_edges-in_default.new.self c.args.config (λ before.
    IsOverSome c.args.masked.now.alphabet.now c.args.masked.now.text.now
    c.args.masked.now.applied.now (g.C.Contexts.applies c.args.contexts.now) c.args.config.here []
    c.args.config.at before l)) c.as_slice-edges.ensures adds) c.follow_edges-in_default.ensures

pub returns-clause-adds : goal.returns-clause-adds
returns-clause-adds g c = on_ok c.follow_places.result _ _ (λ adds net found sound.
    let alphabet = c.args.masked.now.alphabet.now in
    let tokens = c.args.masked.now.text.now in
    let tables = c.args.masked.now.applied.now in
    let applies = g.C.Contexts.applies c.args.contexts.now in
    let config = c.args.config in
    let state = c.args.state.now in
    let position = c.skip-position.result in
    let places = c.in_ok-places.places.items in
    let now = c.meet.ensures net state found (sym c.as_slice-edges.ensures) sound in
    adds_listed alphabet state.edges places tokens tables applies position c.args.self.now
    c.follow_places.new.self config c.skip-position.ensures
    (kept_enough alphabet state.edges places (different_texts tokens) c.in-Some.index.now
    (now.indexes config.here c.in-Some.index.now c.in-Some.ensures state found)
    c.number.result (slice_get tokens position) c.number.ensures.place
    (λ text numbered is. c.in_ok-places.ensures alphabet (different_texts tokens)
    state.edges text is
    numbered))
    (subst (λ (l : List Edge). AddsFrom c.args.self.now c.follow_places.new.self config
    (λ before. IsOverSomeAt alphabet tokens tables applies config.here [] config.at before
    l places))
    c.as_slice-edges.ensures
    (subst (λ (l : List ℕ). AddsFrom c.args.self.now c.follow_places.new.self config
    (λ before. IsOverSomeAt alphabet tokens tables applies config.here [] config.at before
    c.as_slice-edges.result.now l)) c.as_slice.ensures.value adds))) c.follow_places.ensures
