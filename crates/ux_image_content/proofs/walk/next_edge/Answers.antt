use Rattle.std.proofs.Common.{get_or}
use Rattle.std.proofs.lemmas.List.{get_or_default}
use Rattle.ux_dawg.specs.declared.state.Edge.{Edge}
use Rattle.ux_dawg.specs.Building.{bare}
use Rattle.ux_dawg.proofs.FlatLemmas.{read_state}
use Rattle.ux_image_content.proofs.WalkLemmas.{next_is}
use Rattle.ux_image_content.proofs.walk.next_edge.Goals as goal

pub returns : goal.returns
returns c =
    let states = c.args.states.now in
    let number = c.args.frame.state in
    let edges = c.edges-edges.result.now in
    let place = c.args.frame.place in
    let less = c.if-frame-edges.false in
    let none : Edge = record { letter = 0; target = 0 } in
    let edge = get_or edges place none in
    next_is states c.requires.automaton.fit c.args.frame c.requires.within (get_or states number bare)
    (read_state states number c.requires.within) edges c.edges-edges.ensures edge less
    (get_or_default edges place none edge less)
