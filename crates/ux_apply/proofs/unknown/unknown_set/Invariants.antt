use Rattle.std.proofs.Common.{ℕ, ◌↔◌, take}
use Rattle.std.specs.Prelude.{Contains}
use Rattle.ux_apply.specs.Unknown.{AreMarkedIn, IsWithoutRow}
use Rattle.ux_apply.proofs.unknown.unknown_set.Given as goal

-- the set has the numbers of the unknown words so far, and those that are marked are among them
abbrev pub invariant-loop-place : goal.invariant-loop-place
invariant-loop-place l = record {
  marked : AreMarkedIn l.marks.items l.set.keys;
  numbers : (n : ℕ) → Contains l.set.keys n ↔ IsWithoutRow (take l.place l.words) l.rows n;
}
