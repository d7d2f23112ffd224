use Rattle.ux_state_places.specs.RawPlaces.{AreMade, IsPlaceAt}
use Rattle.ux_state_places.proofs.raw.places_of.Given as goal

-- the places so far are those of the ways
abbrev pub invariant-loop-arrival : goal.invariant-loop-arrival
invariant-loop-arrival l =
    AreMade (IsPlaceAt l.states l.ways.kinds.items l.ways.arrivals.keys) l.arrival-index
    l.places.items
