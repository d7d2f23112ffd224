use Rattle.std.proofs.Common.{ℕ, take}
use Rattle.std.specs.Prelude.{Contains}
use Rattle.ux_subsets.proofs.CollectingLemmas.{IsCollected}
use Rattle.ux_monitor.specs.Steps.{Reads}
use Rattle.ux_monitor.proofs.moving.push_read.Given as goal

abbrev pub invariant-loop-place : goal.invariant-loop-place
invariant-loop-place l =
    IsCollected (λ k. (p : ℕ) × Contains l.from p × Reads l.steps l.passed.keys p k)
    (λ (p : ℕ) k. Reads l.steps l.passed.keys p k)
    l.fn.ahead.items l.ahead.items (take l.place-index l.from)
