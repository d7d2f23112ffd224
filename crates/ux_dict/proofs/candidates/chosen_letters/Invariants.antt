use Rattle.std.proofs.Common.{take}
use Rattle.ux_alphabet.specs.Letters.{Fits}
use Rattle.ux_dict.specs.Forms.{IsChosen}
use Rattle.ux_dict.proofs.candidates.chosen_letters.Given as goal

-- those that fit of the letters so far
abbrev pub invariant-loop-letter : goal.invariant-loop-letter
invariant-loop-letter l =
    IsChosen (λ letter. Fits l.alphabet letter l.c) (take l.letter-index l.letters) l.found.items
