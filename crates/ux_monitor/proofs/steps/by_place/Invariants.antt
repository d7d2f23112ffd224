use Rattle.std.proofs.Common.{take}
use Rattle.ux_monitor.specs.Steps.{AreByPlace}
use Rattle.ux_monitor.proofs.steps.by_place.Given as goal

-- the steps so far stand in their rows
abbrev pub invariant-loop-step : goal.invariant-loop-step
invariant-loop-step l = AreByPlace (take l.step-index l.steps) l.rows.items
