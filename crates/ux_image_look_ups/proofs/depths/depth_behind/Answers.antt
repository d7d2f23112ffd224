use Rattle.std.proofs.Common.{get_or, arith}
use Rattle.std.proofs.lemmas.Grind.{common_steps}
use Rattle.std.proofs.lemmas.List.{get_or_default}
use Rattle.ux_dawg.specs.declared.state.Edge.{Edge}
use Rattle.ux_image_look_ups.proofs.LongestLemmas.{deepest-more}
use Rattle.ux_image_look_ups.proofs.depths.depth_behind.Goals as goal

pub loop-edge-preserved : goal.loop-edge-preserved
loop-edge-preserved c =
    let edges = c.args.edges.now in
    let i = c.loop-edge.edge-index in
    let bare_edge : Edge = record { letter = 0; target = 0 } in
    let edge = get_or edges i bare_edge in
    let less = c.loop-edge-test.true in
    let more = deepest-more c.args.depths.now edges i edge less
    (get_or_default edges i bare_edge edge less) in
    let so_far = c.loop-edge.invariant in
    grind (arith, common_steps)
