-- Where the lemma is the form, there is a pair for each piece, and each leaves its piece as it is.
use Rattle.std.proofs.Common.{◌≡◌, ℕ, ◌+◌, List, [], ◌∷◌, cond, refl, sym, ◌∙◌, ap, subst, length, map, zip, replicate}
use Rattle.std.specs.Prelude.{All}
use Rattle.std.specs.Str.{encode_utf8_all}
use Rattle.std.proofs.lemmas.List.{length-replicate}
use Rattle.std.proofs.lemmas.List.Elements.{All-head, All-tail, All-replicate}
use Rattle.std.proofs.lemmas.List.Splits.{length-slice_split}
use Rattle.std.proofs.lemmas.List.Sums.{length-filter}
use Rattle.std.proofs.lemmas.Slice.Eq.{bytes_eq-Decides}
use Rattle.ux_image.specs.Codes.{pair_between, pairs_between, pairs_of_pieces}
use Rattle.ux_image.specs.Cutting.{UNCHANGED}
use Rattle.ux_image.specs.Pieces.{is_separator, pieces, separators}
use Rattle.ux_image.specs.declared.code.Pair.{Pair}
use Rattle.ux_image.proofs.SharedLemmas.{behind_itself}

-- the pair that takes so many characters off as are left, and adds them
abbrev pair_of : List ℕ → Pair
pair_of left = record { taken = length left; added = encode_utf8_all left }

-- a piece is made of itself by no change
pub pair_itself : (text : List ℕ) → pair_between text text ≡ UNCHANGED
pair_itself text = ap pair_of (behind_itself text)

-- and all pieces by as many pairs that change nothing
pairs_themselves : (texts : List (List ℕ)) →
    map (λ p. pair_between p.0 p.1) (zip texts texts) ≡ replicate (length texts) UNCHANGED
pairs_themselves [] = refl
pairs_themselves (text ∷ texts) =
    ap (λ (p : Pair). p ∷ map (λ q. pair_between q.0 q.1) (zip texts texts)) (pair_itself text)
    ∙ ap (λ (ps : List Pair). UNCHANGED ∷ ps) (pairs_themselves texts)

-- there is a piece more than separators
pieces_more : (text : List ℕ) → length (pieces text) ≡ length (separators text) + 1
pieces_more text =
    length-slice_split is_separator text
    ∙ ap (λ n. n + 1) (sym (length-filter is_separator text))

-- so a form that is its own lemma has that many pairs, which change nothing
pub pairs_unchanged : (form : List ℕ) →
    pairs_between form form ≡ replicate (length (separators form) + 1) UNCHANGED
pairs_unchanged form =
    ap (λ b. cond b (pairs_of_pieces form form) (pair_between form form ∷ []))
    ((bytes_eq-Decides (separators form) (separators form)).1 refl)
    ∙ pairs_themselves (pieces form)
    ∙ ap (λ n. replicate n UNCHANGED) (pieces_more form)

-- a list of one item alone
all_one : {X : Type 0} (x : X) (xs : List X) → All (λ y. y ≡ x) xs → xs ≡ replicate (length xs) x
all_one x [] all = refl
all_one x (y ∷ ys) all =
    ap (λ z. z ∷ ys) (All-head (λ z. z ≡ x) y ys all)
    ∙ ap (λ zs. x ∷ zs) (all_one x ys (All-tail (λ z. z ≡ x) y ys all))

-- pairs are these where there are as many, and each changes nothing
pub are_these : (pairs : List Pair) (form : List ℕ) →
    All (λ p. p ≡ UNCHANGED) pairs → length pairs ≡ length (separators form) + 1 →
    pairs ≡ pairs_between form form
are_these pairs form all many =
    all_one UNCHANGED pairs all
    ∙ ap (λ n. replicate n UNCHANGED) many
    ∙ sym (pairs_unchanged form)

-- those of a form that is its own lemma are one more than its separators
pub these_are_many : (pairs : List Pair) (form : List ℕ) → pairs ≡ pairs_between form form →
    length pairs ≡ length (separators form) + 1
these_are_many pairs form same =
    ap (length {A = Pair}) (same ∙ pairs_unchanged form)
    ∙ length-replicate (length (separators form) + 1) UNCHANGED

-- and each of them changes nothing
pub these_are_unchanged : (pairs : List Pair) (form : List ℕ) → pairs ≡ pairs_between form form →
    All (λ p. p ≡ UNCHANGED) pairs
these_are_unchanged pairs form same =
    subst (λ (ps : List Pair). All (λ p. p ≡ UNCHANGED) ps) (sym (same ∙ pairs_unchanged form))
    (All-replicate (λ p. p ≡ UNCHANGED) (length (separators form) + 1) UNCHANGED refl)
