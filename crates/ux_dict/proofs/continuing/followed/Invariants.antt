use Rattle.std.proofs.Common.{List, ℕ, ◌++◌, take}
use Rattle.std.specs.Prelude.{All}
use Rattle.std.specs.Str.{chars}
use Rattle.ux_alphabet.specs.Letters.{Letters, FitsAlone}
use Rattle.ux_dict.specs.Parts.{AreFittingParts, IsFittingPart, entries_of}
use Rattle.ux_dict.proofs.continuing.followed.Given as goal

-- the parts so far go on
abbrev pub invariant-loop-part : goal.invariant-loop-part
invariant-loop-part l = (alphabet : Letters) (front : List ℕ) → All (FitsAlone alphabet) (chars l.more) →
    All (IsFittingPart alphabet front) l.parts →
    AreFittingParts alphabet (front ++ chars l.more) (entries_of (take l.part-index l.parts))
    l.next.items
