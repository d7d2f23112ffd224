use Rattle.std.proofs.Common.{List, ℕ, take}
use Rattle.ux_dict.specs.Parts.{IsPart, IsContinued}
use Rattle.ux_dict.proofs.continuing.push_continued.Given as goal

-- the part goes on with the letters so far
abbrev pub invariant-loop-letter : goal.invariant-loop-letter
invariant-loop-letter l = (front : List ℕ) → IsPart front l.part →
    IsContinued front (take l.letter-index l.letters) l.part l.initial.parts.items l.parts.items
