use Rattle.std.proofs.Common.{◌≡◌, ◌++◌, take}
use Rattle.ux_subsets.proofs.runs.put_all.Given as goal

abbrev pub invariant-loop-step : goal.invariant-loop-step
invariant-loop-step l = l.found.items ≡ l.fn.found.items ++ take l.step-index l.steps
