use Rattle.std.proofs.Common.{List, ℕ, take}
use Rattle.std.specs.Prelude.{All}
use Rattle.std.specs.List.{AllZip}
use Rattle.std.specs.Str.{chars}
use Rattle.ux_alphabet.specs.Letters.{Letters, Fits}
use Rattle.ux_dict.specs.Forms.{IsChosen}
use Rattle.ux_dict.specs.Parts.{IsFittingPart, entries_of}
use Rattle.ux_dict.proofs.list_reached.whole_forms.Given as goal

-- of the parts so far, the entries whose forms fit the text whole
abbrev pub invariant-loop-part : goal.invariant-loop-part
invariant-loop-part l = (alphabet : Letters) (text : List ℕ) →
    All (IsFittingPart alphabet text) l.parts →
    IsChosen (λ entry. AllZip (Fits alphabet) (chars entry.form) text)
    (entries_of (take l.part-index l.parts)) l.found.items
