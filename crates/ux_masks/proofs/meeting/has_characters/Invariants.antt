use Rattle.std.proofs.Common.{◌↔◌}
use Rattle.std.specs.Prelude.{All, Contains, IsTrue}
use Rattle.std.specs.Str.{chars}
use Rattle.ux_masks.proofs.meeting.has_characters.Given as goal

-- whether the code has the characters so far
abbrev pub invariant-loop-wanted : goal.invariant-loop-wanted
invariant-loop-wanted l = IsTrue l.all ↔ All (Contains (chars l.code)) l.yielded
