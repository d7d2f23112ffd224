use Rattle.ux_state_places.specs.RawPlaces.{AreMade, IsStateAt}
use Rattle.ux_state_places.proofs.raw.states_in.Given as goal

-- the numbers so far are the states of the ways
abbrev pub invariant-loop-arrival : goal.invariant-loop-arrival
invariant-loop-arrival l = AreMade (IsStateAt l.arrivals) l.arrival-index l.row.items
