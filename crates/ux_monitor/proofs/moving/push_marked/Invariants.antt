use Rattle.std.proofs.Common.{ℕ, take}
use Rattle.std.specs.Prelude.{Contains}
use Rattle.ux_subsets.proofs.CollectingLemmas.{IsCollected}
use Rattle.ux_monitor.specs.Steps.{Marks}
use Rattle.ux_monitor.proofs.moving.push_marked.Given as goal

abbrev pub invariant-loop-place : goal.invariant-loop-place
invariant-loop-place l =
    IsCollected (λ k. (p : ℕ) × Contains l.from p × Marks l.steps l.mark p k)
    (λ (p : ℕ) k. Marks l.steps l.mark p k)
    l.fn.ahead.items l.ahead.items (take l.place-index l.from)
