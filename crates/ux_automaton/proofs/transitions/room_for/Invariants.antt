use Rattle.std.proofs.Common.{◌-◌, ◌<◌}
use Rattle.ux_automaton.proofs.transitions.room_for.Given as goal

abbrev pub invariant-loop-places : goal.invariant-loop-places
invariant-loop-places l = 0 < l.places

abbrev pub decreases-loop-places : goal.decreases-loop-places
decreases-loop-places l = 524288 - l.places
