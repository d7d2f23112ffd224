-- A literal fits only texts of as many characters.
use Rattle.std.proofs.Common.{Bor, ◌≡◌, ℕ, suc, List, [], ◌∷◌, refl, sym, ◌∙◌, ap, length, map}
use Rattle.std.specs.Prelude.{Some, slice_get}
use Rattle.std.specs.List.{AllZip}
use Rattle.std.specs.Option.{option_map}
use Rattle.std.specs.Str.{chars}
use Rattle.std.proofs.lemmas.Option.{slice_get-map}
use Rattle.ux_alphabet.specs.Letters.{Letters, Fits}
use Rattle.ux_net.specs.declared.label.Label.{Label}
use Rattle.ux_net.specs.declared.label.Label.TheVariants.{CaseFolded, CaseExact}
use Rattle.ux_walk.specs.Literals.{AreCounted, FitsText, IsFitted, count_of}

zip_length : (R : ℕ → ℕ → Type 0) (xs ys : List ℕ) → AllZip R xs ys → length ys ≡ length xs
zip_length R [] [] z = refl
zip_length R [] (y ∷ ys) z = absurd z
zip_length R (x ∷ xs) [] z = absurd z
zip_length R (x ∷ xs) (y ∷ ys) z = ap suc (zip_length R xs ys z.1)

-- the texts that it fits
pub fitted_count : (alphabet : Letters) (label : Label) (text : List ℕ) →
    FitsText alphabet label text → length (chars text) ≡ count_of label
fitted_count alphabet (CaseFolded entry) text fits =
    zip_length (Fits alphabet) (chars entry) (chars text) fits
fitted_count alphabet (CaseExact exact) text fits = ap (λ (t : List ℕ). length (chars t)) fits
fitted_count alphabet other text fits = absurd fits

-- and so the tokens
pub fitted_counted : (alphabet : Letters) (texts : List (List ℕ)) (counts : List ℕ) →
    AreCounted texts counts → (label : Label) (count n : ℕ) → count ≡ count_of label →
    IsFitted alphabet texts label n → slice_get counts n ≡ Some count
fitted_counted alphabet texts counts counted label count n is (text, at, fits) =
    ap (λ (l : List ℕ). slice_get l n) counted
    ∙ (slice_get-map (λ (t : List ℕ). length (chars t)) texts n
    ∙ (ap (option_map (λ (t : List ℕ). length (chars t))) at
    ∙ ap Some (fitted_count alphabet label text fits ∙ sym is)))

-- the texts of slices have the characters of the slices
pub counted_slices : (slices : List (Bor (List ℕ))) →
    map (λ (s : Bor (List ℕ)). length (chars s.now)) slices
    ≡ map (λ (t : List ℕ). length (chars t)) (map (λ (s : Bor (List ℕ)). s.now) slices)
counted_slices [] = refl
counted_slices (s ∷ slices) =
    ap (λ (l : List ℕ). length (chars s.now) ∷ l) (counted_slices slices)
