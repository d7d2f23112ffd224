-- The letters that fit a character.
use Rattle.std.proofs.Common.{ℕ, ◌+◌, ◌<◌, List, arith}
use Rattle.std.specs.List.Sorted.{IsStrictlyIncreasing}
use Rattle.std.proofs.lemmas.List.Kept.{AllPairs-from_increasing}
use Rattle.ux_alphabet.specs.Letters.{Letters, Fits}
use Rattle.ux_dict.specs.Forms.{IsChosen}
use Rattle.ux_dict.specs.Parts.{AreCandidates}
use Rattle.ux_dict.proofs.ChosenLemmas.{chosen-all, chosen-member, chosen-pairs}

-- the letters chosen because they fit
pub AreCandidates-chosen : (alphabet : Letters) (letters found : List ℕ) (c : ℕ) →
    IsStrictlyIncreasing letters → IsChosen (λ letter. Fits alphabet letter c) letters found →
    AreCandidates alphabet letters c found
AreCandidates-chosen alphabet letters found c rising chosen =
    let P : ℕ → Type 0 = λ letter. Fits alphabet letter c in
    let pairs = chosen-pairs P (λ x y. x < y) chosen (AllPairs-from_increasing letters rising) in
    record {
      increasing = λ k lt. pairs k (k + 1) 0 (omega arith) lt;
      fit = chosen-all P chosen;
      every = λ letter member fits. chosen-member P letter chosen member fits;
    }
