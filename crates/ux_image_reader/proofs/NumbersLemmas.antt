-- Bytes begin with one more number where four of them are there, and with none where they aren't.
use Rattle.std.proofs.Common.{arith, ◌≡◌, ℕ, ◌+◌, ◌-◌, ◌<◌, ◌≤◌, List, [], ◌∷◌, refl, sym, ◌∙◌, ap, subst, length, take, drop}
use Rattle.std.proofs.lemmas.List.{drop-drop, take_rest}
use Rattle.std.specs.Int.{w32, from_le_bytes}
use Rattle.ux_image_reader.specs.Numbers.{numbers_of}

numbers_of-cons : (bytes : List ℕ) → 4 ≤ length bytes →
    numbers_of bytes ≡ from_le_bytes w32 (take 4 bytes) ∷ numbers_of (drop 4 bytes)
numbers_of-cons [] long = absurd (omega (arith, long))
numbers_of-cons (a ∷ []) long = absurd (omega (arith, long))
numbers_of-cons (a ∷ (b ∷ [])) long = absurd (omega (arith, long))
numbers_of-cons (a ∷ (b ∷ (c ∷ []))) long = absurd (omega (arith, long))
numbers_of-cons (a ∷ (b ∷ (c ∷ (d ∷ bytes)))) long = refl

numbers_of-nil : (bytes : List ℕ) → length bytes < 4 → numbers_of bytes ≡ []
numbers_of-nil [] few = refl
numbers_of-nil (a ∷ []) few = refl
numbers_of-nil (a ∷ (b ∷ [])) few = refl
numbers_of-nil (a ∷ (b ∷ (c ∷ []))) few = refl
numbers_of-nil (a ∷ (b ∷ (c ∷ (d ∷ bytes)))) few = absurd (omega (arith, few))

-- the number at a place, and those behind it
pub number_at : (bytes : List ℕ) (place number : ℕ) (four : List ℕ) →
    let part = take (length bytes - place) (drop place bytes) in
    4 ≤ length part → four ≡ take 4 part → number ≡ from_le_bytes w32 four →
    numbers_of (drop place bytes) ≡ number ∷ numbers_of (drop (place + 4) bytes)
number_at bytes place number four long is value =
    let all = take_rest bytes place in
    let four_is = is ∙ ap (λ (l : List ℕ). take 4 l) all in
    numbers_of-cons (drop place bytes) (subst (λ (l : List ℕ). 4 ≤ length l) all long)
    ∙ ap (λ n. n ∷ numbers_of (drop 4 (drop place bytes)))
    (sym (value ∙ ap (from_le_bytes w32) four_is))
    ∙ ap (λ (l : List ℕ). number ∷ numbers_of l) (drop-drop 4 place bytes)
