use Rattle.std.proofs.Common.{ℕ, ◌≤◌}
use Rattle.ux_marks.specs.Marks.{IsBadState}
use Rattle.ux_marks.proofs.checking.first_bad.Given as goal

-- no graph so far has a bad state
abbrev pub invariant-loop-before : goal.invariant-loop-before
invariant-loop-before l = (h m : ℕ) → h ≤ l.before → IsBadState l.net h m → ⊥
