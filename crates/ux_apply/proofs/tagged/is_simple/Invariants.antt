use Rattle.std.proofs.Common.{◌↔◌}
use Rattle.std.specs.Prelude.{All, IsTrue}
use Rattle.ux_alphabet.specs.Letters.{IsLetter}
use Rattle.ux_apply.proofs.tagged.is_simple.Given as goal

-- whether the characters so far are letters
abbrev pub invariant-loop-c : goal.invariant-loop-c
invariant-loop-c l = IsTrue l.simple ↔ All (IsLetter l.alphabet) l.yielded
