use Rattle.std.proofs.Common.{List, ℕ, [], ◌∷◌, ◌++◌, take}
use Rattle.std.specs.Prelude.{All}
use Rattle.ux_alphabet.specs.Letters.{Letters}
use Rattle.ux_dict.specs.Kept.{IsSpelled}
use Rattle.ux_dict.specs.Parts.{AreCandidates, AreFittingParts, IsFittingPart, entries_of}
use Rattle.ux_dict.proofs.continuing.continued.Given as goal

-- the parts so far go on
abbrev pub invariant-loop-part : goal.invariant-loop-part
invariant-loop-part l = (alphabet : Letters) (all front : List ℕ) (c : ℕ) →
    AreCandidates alphabet all c l.letters → All (IsFittingPart alphabet front) l.parts →
    All (IsSpelled all) (entries_of l.parts) →
    AreFittingParts alphabet (front ++ c ∷ []) (entries_of (take l.part-index l.parts)) l.next.items
