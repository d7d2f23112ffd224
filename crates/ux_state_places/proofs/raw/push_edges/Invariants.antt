use Rattle.ux_admission.specs.Gains.{Gains, SoBelow, SoAt}
use Rattle.ux_state_places.specs.RawPlaces.{IsEdgePlace}
use Rattle.ux_state_places.proofs.raw.push_edges.Given as goal

-- the edges so far have their places
abbrev pub invariant-loop-edge : goal.invariant-loop-edge
invariant-loop-edge l = Gains l.fn.targets.items l.targets.items
    (SoBelow l.edge-index (SoAt l.edges (IsEdgePlace l.ways.arrivals.keys)))
