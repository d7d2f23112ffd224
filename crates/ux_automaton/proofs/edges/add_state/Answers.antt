use Rattle.std.proofs.Common.{List, ◌↔◌, ◌⊎◌, subst, sym}
use Rattle.std.specs.Prelude.{Contains, slice_get}
use Rattle.ux_net.specs.declared.state.Edge.{Edge}
use Rattle.ux_tokens.specs.Numbers.{different_texts}
use Rattle.ux_walk.proofs.LookUpsLemmas.{kept_enough}
use Rattle.ux_walk.specs.Settings.{masked_setting}
use Rattle.ux_automaton.specs.Targets.{IsTargetOverSome}
use Rattle.ux_automaton.proofs.CacheLemmas.{either, through}
use Rattle.ux_automaton.proofs.EdgesLemmas.{listed_targets}
use Rattle.ux_automaton.proofs.Results.{on_ok}
use Rattle.ux_automaton.proofs.KnownLemmas.{state_known}
use Rattle.ux_automaton.proofs.edges.add_state.Goals as goal

pub returns-then-not-has_index-clause-targets : goal.returns-then-not-has_index-clause-targets
returns-then-not-has_index-clause-targets c = on_ok c.add_edges.result _ _ (λ adds target.
    subst (λ (l : List Edge). Contains c.add_edges.new.targets.items target
    ↔ (Contains c.args.targets.now.items target
    ⊎ IsTargetOverSome (masked_setting c.args.masked.now) c.args.at c.args.stand l target))
    c.as_slice-edges.ensures (adds target)) c.add_edges.ensures

pub returns-in_default-clause-targets : goal.returns-in_default-clause-targets
returns-in_default-clause-targets c = on_ok c.add_edges-in_default.result _ _ (λ adds target.
    subst (λ (l : List Edge). Contains c.add_edges-in_default.new.targets.items target
    ↔ (Contains c.args.targets.now.items target
    ⊎ IsTargetOverSome (masked_setting c.args.masked.now) c.args.at c.args.stand l target))
    c.as_slice-edges.ensures (adds target)) c.add_edges-in_default.ensures

pub returns-clause-targets : goal.returns-clause-targets
returns-clause-targets c = on_ok c.add_places.result _ _ (λ adds target.
    let masked = c.args.masked.now in
    let state = c.args.state.now in
    let edges = state.edges in
    let places = c.in_ok-places.places.items in
    let texts = different_texts masked.text.now in
    let index = c.in-Some.index.now in
    let now = c.meet.ensures masked.net.now state c.requires.found (sym c.as_slice-edges.ensures)
    c.requires.indexed in
    through (adds target) (either (listed_targets (masked_setting masked) c.args.at c.args.stand edges
    places c.skip-place.result c.skip-place.ensures
    (kept_enough masked.alphabet.now edges places texts index
    (now.indexes c.args.stand.here index c.in-Some.ensures state c.requires.found)
    c.number.result (slice_get masked.text.now c.skip-place.result) c.number.ensures.place
    (λ text numbered is. c.in_ok-places.ensures masked.alphabet.now texts edges text is numbered))
    c.as_slice-edges.result.now c.as_slice-edges.ensures c.as_slice.result.now
    c.as_slice.ensures.value target))) c.add_places.ensures

pub add_edges-requires : goal.add_edges-requires
add_edges-requires c = record {
  known = state_known c.args.masked.now c.requires.table c.args.stand.here.graph
      c.args.stand.here.state c.args.state.now c.requires.found c.as_slice-edges.result.now
      c.as_slice-edges.ensures;
}

pub add_edges-requires-in_default : goal.add_edges-requires-in_default
add_edges-requires-in_default c = record {
  known = state_known c.args.masked.now c.requires.table c.args.stand.here.graph
      c.args.stand.here.state c.args.state.now c.requires.found c.as_slice-edges.result.now
      c.as_slice-edges.ensures;
}

pub add_places-requires : goal.add_places-requires
add_places-requires c = record {
  known = state_known c.args.masked.now c.requires.table c.args.stand.here.graph
      c.args.stand.here.state c.args.state.now c.requires.found c.as_slice-edges.result.now
      c.as_slice-edges.ensures;
}
