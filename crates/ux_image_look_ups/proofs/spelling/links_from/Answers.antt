use Rattle.std.proofs.Common.{List, get_or, subst, arith}
use Rattle.std.proofs.lemmas.List.{get_or_default, take_all}
use Rattle.ux_dawg.specs.declared.state.Edge.{Edge}
use Rattle.ux_image_look_ups.specs.Spelling.{Spells}
use Rattle.ux_image_look_ups.proofs.SpellingLemmas.{spells-more, spells-start}
use Rattle.ux_image_look_ups.proofs.spelling.links_from.Goals as goal

pub loop-edge-init : goal.loop-edge-init
loop-edge-init c =
    spells-start c.args.taken.now c.args.behind.now c.new-links.result.items
    c.new-links.ensures.items

pub loop-edge-preserved : goal.loop-edge-preserved
loop-edge-preserved c =
    let edges = c.args.edges.now in
    let i = c.loop-edge.edge-index in
    let bare_edge : Edge = record { letter = 0; target = 0 } in
    let edge = get_or edges i bare_edge in
    let less = c.loop-edge-test.true in
    spells-more c.args.taken.now c.args.behind.now edges i edge c.loop-edge.links.items
    c.push_behind.new.links.items less (get_or_default edges i bare_edge edge less)
    c.loop-edge.invariant c.in_ok-push_behind.ensures

pub returns : goal.returns
returns c =
    let edges = c.args.edges.now in
    subst (λ (l : List Edge). Spells c.args.taken.now c.args.behind.now l c.loop-edge.links.items)
    (take_all c.loop-edge.edge-index edges (omega (arith, c.loop-edge-test.false)))
    c.loop-edge.invariant
