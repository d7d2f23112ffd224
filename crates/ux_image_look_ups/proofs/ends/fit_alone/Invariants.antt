use Rattle.std.proofs.Common.{take}
use Rattle.std.specs.Prelude.{All}
use Rattle.ux_alphabet.specs.Letters.{FitsAlone}
use Rattle.ux_image_look_ups.proofs.ends.fit_alone.Given as goal

-- no other letter fits the characters so far
abbrev pub invariant-loop-c : goal.invariant-loop-c
invariant-loop-c l = All (FitsAlone l.alphabet) (take l.c-index l.letters)
