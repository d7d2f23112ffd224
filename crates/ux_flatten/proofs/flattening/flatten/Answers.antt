use Rattle.std.proofs.Common.{List, subst, sym}
use Rattle.ux_net.specs.declared.state_graph.StateGraph.{StateGraph}
use Rattle.ux_net.specs.StateGraphs.{state_grammar}
use Rattle.ux_admission.specs.SoundGrammar.{IsSoundGrammar}
use Rattle.ux_flatten.specs.Flattening.{told}
use Rattle.ux_flatten.specs.Making.{has_word}
use Rattle.ux_flatten.proofs.FlatDerives.{derives_over_texts}
use Rattle.ux_flatten.proofs.FlattenedLaw.{inside_flat, is_flat_graph, is_flattened, some_told}
use Rattle.ux_flatten.proofs.SoundLaw.{flat_sound}
use Rattle.ux_flatten.proofs.flattening.flatten.Goals as goal

pub admit-requires-clause-inside : goal.admit-requires-clause-inside
admit-requires-clause-inside c =
    let net = c.args.net.now in
    let source = c.in_ok-source.source in
    let same = c.in_ok-source.ensures.graphs in
    let flat = is_flat_graph net source.graphs.items same (has_word source)
    c.in_ok-source.ensures.words c.args.depth c.in_ok-flat.flat c.in_ok-states.states.items
    c.in_ok-states.ensures.states c.in_ok-flat.ensures.name c.in_ok-flat.ensures.states in
    inside_flat net c.args.depth c.requires.inside c.in_ok-source.ensures.some c.in_ok-flat.flat flat
    (is_flattened net source.graphs.items same c.args.depth c.in_ok-states.ensures.small
    c.in_ok-refuse_cuts.ensures.ok)

pub admit-requires-clause-sound : goal.admit-requires-clause-sound
admit-requires-clause-sound c =
    let net = c.args.net.now in
    let source = c.in_ok-source.source in
    let flat = is_flat_graph net source.graphs.items c.in_ok-source.ensures.graphs (has_word source)
    c.in_ok-source.ensures.words c.args.depth c.in_ok-flat.flat c.in_ok-states.states.items
    c.in_ok-states.ensures.states c.in_ok-flat.ensures.name c.in_ok-flat.ensures.states in
    flat_sound (told net) c.args.depth c.in_ok-flat.flat c.requires.inside
    (some_told net c.in_ok-source.ensures.some) c.requires.sound flat

pub returns-clause-flattened : goal.returns-clause-flattened
returns-clause-flattened c =
    is_flattened c.args.net.now c.in_ok-source.source.graphs.items c.in_ok-source.ensures.graphs
    c.args.depth c.in_ok-states.ensures.small c.in_ok-refuse_cuts.ensures.ok

pub returns-clause-derives : goal.returns-clause-derives
returns-clause-derives c =
    let net = c.args.net.now in
    let source = c.in_ok-source.source in
    let same = c.in_ok-source.ensures.graphs in
    let flat = is_flat_graph net source.graphs.items same (has_word source)
    c.in_ok-source.ensures.words c.args.depth c.in_ok-flat.flat c.in_ok-states.states.items
    c.in_ok-states.ensures.states c.in_ok-flat.ensures.name c.in_ok-flat.ensures.states in
    derives_over_texts (told net) c.args.depth c.requires.inside
    (some_told net c.in_ok-source.ensures.some) c.requires.sound.contexts.closed
    (is_flattened net source.graphs.items same c.args.depth c.in_ok-states.ensures.small
    c.in_ok-refuse_cuts.ensures.ok) c.in_ok-flat.flat flat c.in_ok-admit.field-0
    c.in_ok-admit.ensures.words

pub returns-clause-sound : goal.returns-clause-sound
returns-clause-sound c =
    let net = c.args.net.now in
    let source = c.in_ok-source.source in
    let flat = is_flat_graph net source.graphs.items c.in_ok-source.ensures.graphs (has_word source)
    c.in_ok-source.ensures.words c.args.depth c.in_ok-flat.flat c.in_ok-states.states.items
    c.in_ok-states.ensures.states c.in_ok-flat.ensures.name c.in_ok-flat.ensures.states in
    subst (λ (l : List StateGraph). IsSoundGrammar (state_grammar l))
    (sym c.in_ok-admit.ensures.states)
    (flat_sound (told net) c.args.depth c.in_ok-flat.flat c.requires.inside
    (some_told net c.in_ok-source.ensures.some) c.requires.sound flat)
