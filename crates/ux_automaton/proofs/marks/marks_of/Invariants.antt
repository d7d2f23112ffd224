use Rattle.std.proofs.Common.{◌≡◌, length}
use Rattle.ux_automaton.specs.Kept.{AreMarked}
use Rattle.ux_walk.specs.Settings.{masked_setting}
use Rattle.ux_automaton.proofs.marks.marks_of.Given as goal

-- the marks so far are right
abbrev pub invariant-loop-place : goal.invariant-loop-place
invariant-loop-place l = record {
  count : length l.marks.items ≡ l.place;
  marked : AreMarked (masked_setting l.masked) l.marks.items;
}
