use Rattle.std.proofs.Common.{arith, ◌≡◌, ◌<◌, List, [], suc, length, get_or, refl, sym, subst}
use Rattle.std.specs.Vec.Iter.{into_iter_items}
use Rattle.std.proofs.lemmas.Grind.{common_steps}
use Rattle.ux_net.specs.declared.net_graph.NetGraph.{NetGraph}
use Rattle.ux_boxes.proofs.NumbersLemmas.{offset_room}
use Rattle.ux_states.proofs.BuildingLemmas.{Of, AreBuiltTo, built_below, built_next, built_all, built_here}
use Rattle.ux_states.proofs.building.each_built.Goals as goal

pub graph_of-requires : goal.graph_of-requires
graph_of-requires c =
    let graphs = into_iter_items c.args.graphs in
    let placed = c.args.placed.now in
    let admitted = c.args.admitted.now in
    let below = built_below graphs placed.places.items placed.states.items placed.hubs.items
    admitted.closers.items admitted.ranks.items admitted.free.items c.loop-graph.net.items
    c.in-Some.graph (into_iter_items c.next.new.self)
    (subst (AreBuiltTo graphs placed.places.items placed.states.items placed.hubs.items
    admitted.closers.items admitted.ranks.items admitted.free.items c.loop-graph.net.items)
    c.in-Some.ensures.items c.loop-graph.invariant) in
    let count = c.requires.count in
    let len : c.len-number.result ≡ length c.loop-graph.net.items = grind (arith, common_steps) in
    record {
      room = offset_room placed.places.items c.args.offsets.now c.requires.offsets
          c.len-number.result (get_or placed.places.items c.len-number.result [])
          (omega (arith, below, count, len)) refl;
    }

pub loop-graph-preserved : goal.loop-graph-preserved
loop-graph-preserved c =
    let graphs = into_iter_items c.args.graphs in
    let placed = c.args.placed.now in
    let admitted = c.args.admitted.now in
    let so_far = subst (AreBuiltTo graphs placed.places.items placed.states.items placed.hubs.items
    admitted.closers.items admitted.ranks.items admitted.free.items c.loop-graph.net.items)
    c.in-Some.ensures.items c.loop-graph.invariant in
    let below = built_below graphs placed.places.items placed.states.items placed.hubs.items
    admitted.closers.items admitted.ranks.items admitted.free.items c.loop-graph.net.items
    c.in-Some.graph (into_iter_items c.next.new.self) so_far in
    let count = c.requires.count in
    let len : c.len-number.result ≡ length c.loop-graph.net.items = grind (arith, common_steps) in
    let within : c.len-number.result < length placed.places.items =
    omega (arith, below, count, len) in
    let here = built_here graphs placed.places.items placed.states.items placed.hubs.items
    admitted.closers.items admitted.ranks.items admitted.free.items c.len-number.result
    (get_or c.args.offsets.now c.len-number.result 0) c.in-Some.graph c.in_ok-graph_of.field-0 within
    (c.requires.offsets.offset c.len-number.result (omega (arith, within)))
    c.in_ok-graph_of.ensures in
    subst (λ (net : List NetGraph). AreBuiltTo graphs placed.places.items placed.states.items
    placed.hubs.items admitted.closers.items admitted.ranks.items admitted.free.items net
    (into_iter_items c.next.new.self)) (sym c.in_ok-push.ensures.items)
    (built_next graphs placed.places.items placed.states.items placed.hubs.items
    admitted.closers.items admitted.ranks.items admitted.free.items c.loop-graph.net.items
    c.in-Some.graph (into_iter_items c.next.new.self) c.in_ok-graph_of.field-0 so_far
    (subst (λ n. Of graphs placed.places.items placed.states.items placed.hubs.items
    admitted.closers.items admitted.ranks.items admitted.free.items (suc n) c.in-Some.graph
    c.in_ok-graph_of.field-0) len here))

pub returns : goal.returns
returns c =
    let graphs = into_iter_items c.args.graphs in
    let placed = c.args.placed.now in
    let admitted = c.args.admitted.now in
    let none : into_iter_items c.loop-graph.graphs ≡ [] = grind (arith, common_steps) in
    built_all graphs placed.places.items placed.states.items placed.hubs.items
    admitted.closers.items admitted.ranks.items admitted.free.items c.loop-graph.net.items
    (subst (AreBuiltTo graphs placed.places.items placed.states.items placed.hubs.items
    admitted.closers.items admitted.ranks.items admitted.free.items c.loop-graph.net.items) none
    c.loop-graph.invariant)
