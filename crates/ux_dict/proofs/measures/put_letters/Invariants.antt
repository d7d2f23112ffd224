use Rattle.std.proofs.Common.{ℕ, All, Contains}
use Rattle.ux_dict.specs.Kept.{AreMarksOf}
use Rattle.ux_dict.proofs.measures.put_letters.Given as goal

-- the set has what it had, what is marked, and the characters so far
abbrev pub invariant-loop-c : goal.invariant-loop-c
invariant-loop-c l = record {
  marks : AreMarksOf l.set.keys l.marks.items;
  kept : (c : ℕ) → Contains l.initial.set.keys c → Contains l.set.keys c;
  put : All (Contains l.set.keys) l.yielded;
}
