use Rattle.std.proofs.Common.{◌↔◌}
use Rattle.std.specs.Prelude.{Contains, IsTrue}
use Rattle.ux_masks.proofs.meeting.has_character.Given as goal

-- whether the character is among those so far
abbrev pub invariant-loop-character : goal.invariant-loop-character
invariant-loop-character l = IsTrue l.found ↔ Contains l.yielded l.wanted
