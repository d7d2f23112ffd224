use Rattle.std.proofs.Common.{ℕ, ◌≡◌, ◌<◌, ◌≤◌, [], get_or}
use Rattle.ux_locate.proofs.ends.push_first_after.Given as goal

-- the positions so far aren't after the start
abbrev pub invariant-loop-position : goal.invariant-loop-position
invariant-loop-position l = record {
  none : l.ends.items ≡ [];
  before : (k : ℕ) → k < l.position-index → get_or l.positions k 0 ≤ l.start;
}
