use Rattle.std.proofs.Common.{ℕ, ◌<◌, ◌≤◌}
use Rattle.ux_lexical_tables.specs.Accepting.{IsDigitAt}
use Rattle.ux_lexical_tables.proofs.digits.digits_end.Given as goal

-- digits stand at the places so far
abbrev pub invariant-loop-place : goal.invariant-loop-place
invariant-loop-place l = (k : ℕ) → l.i ≤ k → k < l.place → IsDigitAt l.text k
