use Rattle.std.proofs.Common.{take}
use Rattle.std.specs.Prelude.{Contains}
use Rattle.ux_subsets.proofs.CollectingLemmas.{IsCollected}
use Rattle.ux_monitor.specs.declared.rule.Step.{Step}
use Rattle.ux_monitor.specs.Steps.{ReadsTo}
use Rattle.ux_monitor.proofs.moving.push_row_read.Given as goal

abbrev pub invariant-loop-step : goal.invariant-loop-step
invariant-loop-step l =
    IsCollected (λ k. (s : Step) × Contains l.row s × ReadsTo l.passed.keys s k)
    (λ (s : Step) k. ReadsTo l.passed.keys s k)
    l.fn.ahead.items l.ahead.items (take l.step-index l.row)
