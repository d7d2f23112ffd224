use Rattle.std.proofs.Common.{length}
use Rattle.std.specs.Vec.Iter.{into_iter_items}
use Rattle.ux_states.proofs.BuildingLemmas.{AreBuiltTo}
use Rattle.ux_states.proofs.building.each_built.Given as goal

-- the graphs so far are built, and those that are left are the others
abbrev pub invariant-loop-graph : goal.invariant-loop-graph
invariant-loop-graph l =
    AreBuiltTo (into_iter_items l.initial.graphs) l.placed.places.items l.placed.states.items
    l.placed.hubs.items l.admitted.closers.items l.admitted.ranks.items l.admitted.free.items
    l.net.items (into_iter_items l.graphs)

abbrev pub decreases-loop-graph : goal.decreases-loop-graph
decreases-loop-graph l = length (into_iter_items l.graphs)
