use Rattle.std.proofs.Common.{◌≤◌, length}
use Rattle.ux_dawg.specs.Building.{IsCut}
use Rattle.ux_dawg.proofs.pending.cut.Given as goal

abbrev pub invariant-loop-register : goal.invariant-loop-register
invariant-loop-register l =
    IsCut l.initial.register l.initial.pending.above.items l.initial.top
    l.register l.pending.above.items l.top (length l.pending.above.items)
    × (l.depth ≤ length l.pending.above.items)

abbrev pub decreases-loop-register : goal.decreases-loop-register
decreases-loop-register l = length l.pending.above.items
