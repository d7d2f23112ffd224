use Rattle.ux_state_places.specs.Placing.{AreRawTo}
use Rattle.ux_state_places.proofs.placed.raw_graphs.Given as goal

-- the graphs so far have their rows
abbrev pub invariant-loop-graph : goal.invariant-loop-graph
invariant-loop-graph l =
    AreRawTo l.graphs l.graph-index l.places.items l.states.items l.hubs.items
