use Rattle.std.proofs.Common.{◌↔◌}
use Rattle.std.specs.Prelude.{All, IsTrue}
use Rattle.ux_alphabet.specs.Letters.{IsLetter}
use Rattle.ux_reading_match.proofs.spelling.are_letters.Given as goal

-- whether the characters so far are such letters
abbrev pub invariant-loop-c : goal.invariant-loop-c
invariant-loop-c l = IsTrue l.all ↔ All (IsLetter l.alphabet) l.yielded
