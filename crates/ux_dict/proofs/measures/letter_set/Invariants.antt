use Rattle.std.proofs.Common.{All, take}
use Rattle.ux_dict.specs.Kept.{AreMarksOf, IsSpelled}
use Rattle.ux_dict.proofs.measures.letter_set.Given as goal

-- the set spells the forms so far, and has what is marked
abbrev pub invariant-loop-entry : goal.invariant-loop-entry
invariant-loop-entry l = record {
  spelled : All (IsSpelled l.set.keys) (take l.entry-index l.entries);
  marks : AreMarksOf l.set.keys l.marks.items;
}
