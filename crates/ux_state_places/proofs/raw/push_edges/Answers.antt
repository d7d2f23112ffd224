use Rattle.ux_admission.proofs.GainsLemmas.{gains_item, gains_items}
use Rattle.ux_state_places.specs.RawPlaces.{IsEdgePlace}
use Rattle.ux_state_places.proofs.raw.push_edges.Goals as goal

pub loop-edge-preserved : goal.loop-edge-preserved
loop-edge-preserved c =
    gains_item c.args.targets.now.items c.loop-edge.targets.items c.push_edge.new.targets.items
    c.args.edges.now c.loop-edge.edge-index c.edge-item.result
    (IsEdgePlace c.args.ways.now.arrivals.keys) c.loop-edge-test.true c.edge-item.is
    c.loop-edge.invariant c.in_ok-push_edge.ensures

pub returns : goal.returns
returns c =
    gains_items c.args.targets.now.items c.loop-edge.targets.items c.args.edges.now
    c.loop-edge.edge-index (IsEdgePlace c.args.ways.now.arrivals.keys) c.loop-edge-test.false
    c.loop-edge.invariant
