use Rattle.std.proofs.Common.{◌↔◌}
use Rattle.std.specs.Prelude.{All, IsTrue}
use Rattle.ux_alphabet.specs.Letters.{IsLower}
use Rattle.ux_reading_match.proofs.spelling.is_lower.Given as goal

-- whether the characters so far are such letters
abbrev pub invariant-loop-c : goal.invariant-loop-c
invariant-loop-c l = IsTrue l.all ↔ All (IsLower l.alphabet) l.yielded
