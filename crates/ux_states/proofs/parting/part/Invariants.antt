use Rattle.std.proofs.Common.{◌≡◌, ◌++◌, length}
use Rattle.std.specs.Vec.Iter.{into_iter_items}
use Rattle.ux_states.specs.Building.{is_met, searched_from, aside_from}
use Rattle.ux_states.proofs.parting.part.Given as goal

-- the states so far, and then those that are left, are all of them, parted
abbrev pub invariant-loop-state : goal.invariant-loop-state
invariant-loop-state l =
    (searched_from (is_met l.places l.hubs) 0 (into_iter_items l.initial.states)
    ≡ l.searched.items
    ++ searched_from (is_met l.places l.hubs) (length l.searched.items) (into_iter_items l.states))
    × (aside_from (is_met l.places l.hubs) 0 (into_iter_items l.initial.states)
    ≡ l.unmet.items
    ++ aside_from (is_met l.places l.hubs) (length l.searched.items) (into_iter_items l.states))

abbrev pub decreases-loop-state : goal.decreases-loop-state
decreases-loop-state l = length (into_iter_items l.states)
