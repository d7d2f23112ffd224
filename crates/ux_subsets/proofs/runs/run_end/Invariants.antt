use Rattle.std.proofs.Common.{◌≡◌, ◌≤◌, ◌<◌, ◌-◌, ℕ, length}
use Rattle.ux_subsets.specs.Departures.{reading_at}
use Rattle.ux_subsets.proofs.runs.run_end.Given as goal

-- the steps so far have the reading of the first
abbrev pub invariant-loop-end : goal.invariant-loop-end
invariant-loop-end l = record {
  some : l.begin < l.end;
  within : l.end ≤ length l.steps;
  same : (k : ℕ) → l.begin ≤ k → k < l.end → reading_at l.steps k ≡ reading_at l.steps l.begin;
}

abbrev pub decreases-loop-end : goal.decreases-loop-end
decreases-loop-end l = length l.steps - l.end
