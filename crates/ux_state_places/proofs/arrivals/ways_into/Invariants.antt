use Rattle.ux_state_places.specs.Arriving.{AreWaysBelow}
use Rattle.ux_state_places.proofs.arrivals.ways_into.Given as goal

-- the ways into the states so far, with their hubs
abbrev pub invariant-loop-state : goal.invariant-loop-state
invariant-loop-state l =
    AreWaysBelow l.rows.items l.state l.kinds.items l.firsts.items l.arrivals.keys
