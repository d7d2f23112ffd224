use Rattle.std.specs.Prelude.{All}
use Rattle.ux_alphabet.specs.Letters.{FitsAlone}
use Rattle.ux_dict.proofs.continuing.fit_alone.Given as goal

-- no other character fits one so far
abbrev pub invariant-loop-c : goal.invariant-loop-c
invariant-loop-c l = All (FitsAlone l.alphabet) l.yielded
