use Rattle.ux_state_places.specs.RawPlaces.{AreMade, IsHubPlace}
use Rattle.ux_state_places.proofs.raw.hubs_of.Given as goal

-- the places so far are those of the hubs
abbrev pub invariant-loop-state : goal.invariant-loop-state
invariant-loop-state l =
    AreMade (IsHubPlace l.ways.kinds.items l.ways.arrivals.keys) l.state l.row.items
