use Rattle.std.proofs.Common.{List, ℕ, subst, sym}
use Rattle.std.specs.Prelude.{slice_get}
use Rattle.std.proofs.lemmas.Result.{on_ok_weaker}
use Rattle.ux_net.specs.declared.state.Edge.{Edge}
use Rattle.ux_tokens.specs.Numbers.{different_texts}
use Rattle.ux_walk.proofs.LookUpsLemmas.{kept_enough}
use Rattle.ux_walk.specs.Settings.{masked_setting}
use Rattle.ux_listing.specs.Moves.{CrossesSome, CrossesSomeAt}
use Rattle.ux_listing.specs.Walking.{Follows}
use Rattle.ux_listing.proofs.MovesLemmas.{follows_places}
use Rattle.ux_listing.proofs.following.follow_state.Goals as goal

pub returns-in_err-meet-clause-sound : goal.returns-in_err-meet-clause-sound
returns-in_err-meet-clause-sound g c = λ net found sound.
    c.meet.ensures net c.args.state.now found (sym c.as_slice-edges.ensures) sound

pub returns-in_default-clause-sound : goal.returns-in_default-clause-sound
returns-in_default-clause-sound g c = λ net found sound.
    c.meet.ensures net c.args.state.now found (sym c.as_slice-edges.ensures) sound

pub returns-in_err-places-clause-sound : goal.returns-in_err-places-clause-sound
returns-in_err-places-clause-sound g c = λ net found sound.
    c.meet.ensures net c.args.state.now found (sym c.as_slice-edges.ensures) sound

pub returns-clause-sound : goal.returns-clause-sound
returns-clause-sound g c = λ net found sound.
    c.meet.ensures net c.args.state.now found (sym c.as_slice-edges.ensures) sound

pub returns-then-not-has_index-clause-follows : goal.returns-then-not-has_index-clause-follows
returns-then-not-has_index-clause-follows g c = on_ok_weaker c.follow_edges.result
    (λ f net found sound. subst (λ (l : List Edge). Follows (g.F.Fold.next c.follow_edges.new.fold)
    (g.M.Marks.marked c.args.marks.now) c.args.config
    (CrossesSome (masked_setting c.args.masked.now) (g.C.Contexts.applies c.args.contexts.now)
    c.args.config.visit.graph l c.args.config.at) c.args.next.now.items
    c.follow_edges.new.next.items) c.as_slice-edges.ensures f) c.follow_edges.ensures.follows

pub returns-in_default-clause-follows : goal.returns-in_default-clause-follows
returns-in_default-clause-follows g c = on_ok_weaker c.follow_edges-in_default.result
    (λ f net found sound. subst (λ (l : List Edge).
    Follows (g.F.Fold.next c.follow_edges-in_default.new.fold)
    (g.M.Marks.marked c.args.marks.now) c.args.config
    (CrossesSome (masked_setting c.args.masked.now) (g.C.Contexts.applies c.args.contexts.now)
    c.args.config.visit.graph l c.args.config.at) c.args.next.now.items
    c.follow_edges-in_default.new.next.items) c.as_slice-edges.ensures f)
    c.follow_edges-in_default.ensures.follows

pub returns-clause-follows : goal.returns-clause-follows
returns-clause-follows g c = on_ok_weaker c.follow_places.result (λ f net found sound.
    let setting = masked_setting c.args.masked.now in
    let applies = g.C.Contexts.applies c.args.contexts.now in
    let tokens = c.args.masked.now.text.now in
    let config = c.args.config in
    let state = c.args.state.now in
    let position = c.skip-position.result in
    let places = c.in_ok-places.places.items in
    let now = c.meet.ensures net state found (sym c.as_slice-edges.ensures) sound in
    follows_places setting applies config.visit.graph config.at state.edges places
    (g.F.Fold.next c.follow_places.new.fold) (g.M.Marks.marked c.args.marks.now) config
    c.args.next.now.items c.follow_places.new.next.items position c.skip-position.ensures
    (kept_enough setting.alphabet state.edges places (different_texts tokens) c.in-Some.index.now
    (now.indexes (record { graph = config.visit.graph; state = config.state }) c.in-Some.index.now
    c.in-Some.ensures state found)
    c.number.result (slice_get tokens position) c.number.ensures.place
    (λ text numbered is. c.in_ok-places.ensures setting.alphabet (different_texts tokens)
    state.edges text is numbered))
    (subst (λ (l : List Edge). Follows (g.F.Fold.next c.follow_places.new.fold)
    (g.M.Marks.marked c.args.marks.now) config
    (CrossesSomeAt setting applies config.visit.graph l places config.at) c.args.next.now.items
    c.follow_places.new.next.items) c.as_slice-edges.ensures
    (subst (λ (l : List ℕ). Follows (g.F.Fold.next c.follow_places.new.fold)
    (g.M.Marks.marked c.args.marks.now) config
    (CrossesSomeAt setting applies config.visit.graph c.as_slice-edges.result.now l config.at)
    c.args.next.now.items c.follow_places.new.next.items) c.as_slice.ensures.value f)))
    c.follow_places.ensures.follows
