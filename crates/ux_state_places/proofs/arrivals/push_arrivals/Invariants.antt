use Rattle.std.proofs.Common.{◌≡◌}
use Rattle.ux_state_places.specs.Arriving.{AreAdded, way_into}
use Rattle.ux_state_places.proofs.ArrivingLemmas.{IsOfOneBelow}
use Rattle.ux_state_places.proofs.arrivals.push_arrivals.Given as goal

abbrev pub invariant-loop-kind : goal.invariant-loop-kind
invariant-loop-kind l = AreAdded l.state l.initial.arrivals.keys l.arrivals.keys
    (λ x. IsOfOneBelow l.kinds (λ kind. way_into l.state kind ≡ x) l.kind-index)
