use Rattle.std.proofs.Common.{◌≡◌, List, sym, subst}
use Rattle.std.specs.Prelude.{Contains}
use Rattle.ux_net.specs.declared.label.Label.TheVariants.{ContextEnd}
use Rattle.ux_net.specs.declared.state.Edge.{Edge}
use Rattle.ux_chart.proofs.Collecting.{collected_more}
use Rattle.ux_chart.proofs.GatheringLemmas.{closed_all}
use Rattle.ux_chart.proofs.gathering.close_from.Goals as goal

pub loop-edge-preserved : goal.loop-edge-preserved
loop-edge-preserved c =
    let edge = c.edge-item.result in
    let inside : Contains c.in-Some.state.now.edges edge =
    subst (λ (xs : List Edge). Contains xs edge) c.as_slice-edge-items.ensures
    (c.loop-edge.edge-index, c.loop-edge-test.true, sym c.edge-item.is) in
    collected_more _ _ c.args.closers.now.items c.loop-edge.closers.items c.close_by.new.closers.items
    c.as_slice-edge-items.result.now c.loop-edge.edge-index edge
    (λ j. (edge.label ≡ ContextEnd) × (edge.target ≡ j)) c.loop-edge-test.true c.edge-item.is
    (λ j l. record {
      state = c.in-Some.state.now;
      found = sym c.in-Some.ensures;
      edge = edge;
      inside = inside;
      label = l.0;
      to = l.1;
    })
    c.loop-edge.invariant (λ j. (λ h. h, λ h. h)) c.in_ok-close_by.ensures

pub returns : goal.returns
returns c =
    closed_all c.args.net.now c.args.graph c.args.config c.in-Some.state.now c.in-Some.ensures
    c.args.closers.now.items c.loop-edge.closers.items c.as_slice-edge-items.result.now
    c.as_slice-edge-items.ensures c.loop-edge.edge-index c.loop-edge-test.false
    c.loop-edge.invariant
