use Rattle.std.proofs.Common.{◌+◌, ◌-◌, ℕ, length}
use Rattle.ux_automaton.specs.Caches.{HasValue}
use Rattle.ux_automaton.proofs.slots.reach.Given as goal

-- what was added has no value
abbrev pub invariant-loop-slots : goal.invariant-loop-slots
invariant-loop-slots g l = (n : ℕ) (v : g.row.V.Denot) →
    HasValue l.slots.items n v → HasValue l.fn.slots.items n v

-- each round adds a place
abbrev pub decreases-loop-slots : goal.decreases-loop-slots
decreases-loop-slots g l = l.number + 1 - length l.slots.items
