use Rattle.std.proofs.Common.{arith, List, suc, ◌<◌, ◌≡◌, length, subst, sym, ap, ◌∙◌}
use Rattle.ux_net.specs.declared.state.State.{State}
use Rattle.ux_net.specs.StateGraphs.{told_in}
use Rattle.ux_state_places.specs.Arrivals.{HaveInsideTargets}
use Rattle.ux_state_places.specs.Placing.{AreRawRows, AreRawTo}
use Rattle.ux_state_places.proofs.PlacingLemmas.{told_here, edges_inside, raw_pushed}
use Rattle.ux_state_places.proofs.placed.raw_graphs.Goals as goal

pub raw_graph-requires : goal.raw_graph-requires
raw_graph-requires c =
    let graphs = c.args.graphs.now in
    let k = c.loop-graph.graph-index in
    let graph = c.graph-item.result in
    let at = told_here graphs k graph c.loop-graph-test.true c.graph-item.is in
    let inside = c.requires.inside in
    record {
      some = subst (λ (l : List State). 0 < length l) (sym c.as_slice.ensures)
          (inside.start (suc k) graph at);
      few = subst (λ (l : List State). length l < 4294967296) (sym c.as_slice.ensures)
          (inside.few (suc k) graph at);
      inside = subst HaveInsideTargets (ap told_in at ∙ sym c.as_slice.ensures)
          (edges_inside graphs inside (suc k));
    }

pub loop-graph-preserved : goal.loop-graph-preserved
loop-graph-preserved c =
    let graphs = c.args.graphs.now in
    let k = c.loop-graph.graph-index in
    let graph = c.graph-item.result in
    let at = told_here graphs k graph c.loop-graph-test.true c.graph-item.is in
    let row = c.in_ok-row.row in
    raw_pushed graphs k c.loop-graph.places.items c.push.new.self.items c.loop-graph.states.items
    c.push-in-loop-graph.new.self.items c.loop-graph.hubs.items c.push-in-loop-graph-2.new.self.items c.loop-graph.invariant
    row.places.items c.new.result row.states.items c.new-in-loop-graph.result row.hubs.items c.new-in-loop-graph-2.result
    (subst (λ (l : List State). AreRawRows l row.places.items row.states.items row.hubs.items)
    (c.as_slice.ensures ∙ sym (ap told_in at)) c.in_ok-row.ensures) c.new.ensures c.new-in-loop-graph.ensures
    c.new-in-loop-graph-2.ensures c.in_ok-push.ensures.items c.in_ok-push-2.ensures.items
    c.in_ok-push-3.ensures.items

pub returns : goal.returns
returns c =
    let most = c.loop-graph.auto.graph-index-end in
    let least = c.loop-graph-test.false in
    let all : c.loop-graph.graph-index ≡ length c.args.graphs.now = omega (arith, most, least) in
    subst (λ n. AreRawTo c.args.graphs.now n c.loop-graph.places.items c.loop-graph.states.items
    c.loop-graph.hubs.items) all c.loop-graph.invariant
