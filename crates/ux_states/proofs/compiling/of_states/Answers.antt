use Rattle.std.proofs.Common.{arith, List, sym, subst}
use Rattle.ux_net.specs.declared.net_graph.NetGraph.{NetGraph}
use Rattle.ux_net.specs.Nets.{net_grammar}
use Rattle.ux_net.specs.Whole.{HaveSameStates}
use Rattle.ux_net.specs.Words.{SayTheSame}
use Rattle.ux_states.specs.Met.{met_grammar}
use Rattle.ux_states.proofs.Found.{found_of}
use Rattle.ux_states.proofs.SoundLaw.{net_sound, net_whole}
use Rattle.ux_states.proofs.WordsLaw.{net_same}
use Rattle.ux_states.proofs.compiling.of_states.Goals as goal

pub of-requires-clause-sound : goal.of-requires-clause-sound
of-requires-clause-sound c =
    let placed = c.in_ok-placed.placed in
    let admitted = c.in_ok-admitted.admitted in
    let known = c.in_ok-admitted.ensures in
    let it = found_of c.args.graphs.items c.deref.result.now c.deref-2.result.now
    placed.places.items placed.states.items placed.hubs.items admitted.closers.items
    admitted.ranks.items admitted.free.items admitted.levels.items c.deref.ensures.value
    c.deref-2.ensures.value c.requires.inside c.in_ok-placed.ensures.stand known.closers known.ranks
    known.levels known.sound in
    let few = c.in_ok-net.ensures.few in
    let len = known.levels.len in
    net_sound it c.in_ok-net.net.items c.in_ok-net.ensures.built c.requires.some c.requires.few
    (omega (arith, few, len))

pub returns-clause-states : goal.returns-clause-states
returns-clause-states c =
    let placed = c.in_ok-placed.placed in
    let admitted = c.in_ok-admitted.admitted in
    let known = c.in_ok-admitted.ensures in
    let it = found_of c.args.graphs.items c.deref.result.now c.deref-2.result.now
    placed.places.items placed.states.items placed.hubs.items admitted.closers.items
    admitted.ranks.items admitted.free.items admitted.levels.items c.deref.ensures.value
    c.deref-2.ensures.value c.requires.inside c.in_ok-placed.ensures.stand known.closers known.ranks
    known.levels known.sound in
    subst (λ (net : List NetGraph). HaveSameStates net c.args.graphs.items) (sym c.of.ensures)
    (net_whole it c.in_ok-net.net.items c.in_ok-net.ensures.built)

pub returns-clause-words : goal.returns-clause-words
returns-clause-words c =
    let placed = c.in_ok-placed.placed in
    let admitted = c.in_ok-admitted.admitted in
    let known = c.in_ok-admitted.ensures in
    let it = found_of c.args.graphs.items c.deref.result.now c.deref-2.result.now
    placed.places.items placed.states.items placed.hubs.items admitted.closers.items
    admitted.ranks.items admitted.free.items admitted.levels.items c.deref.ensures.value
    c.deref-2.ensures.value c.requires.inside c.in_ok-placed.ensures.stand known.closers known.ranks
    known.levels known.sound in
    subst (λ (net : List NetGraph). SayTheSame (met_grammar c.args.graphs.items) (net_grammar net))
    (sym c.of.ensures) (net_same it c.in_ok-net.net.items c.in_ok-net.ensures.built)
