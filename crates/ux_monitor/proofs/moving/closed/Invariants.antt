use Rattle.ux_monitor.specs.Walks.{IsWalk, work_left}
use Rattle.ux_monitor.proofs.moving.closed.Given as goal

abbrev pub invariant-loop-place : goal.invariant-loop-place
invariant-loop-place l = IsWalk l.steps l.fn.ahead.items l.found.keys l.ahead.items

abbrev pub decreases-loop-place : goal.decreases-loop-place
decreases-loop-place l = work_left l.found.keys l.ahead.items
