-- The definitions on small entries.
use Rattle.std.proofs.Common.{◌≡◌, ℕ, List, [], ◌∷◌, refl}
use Rattle.std.specs.Prelude.{codes}
use Rattle.std.specs.Str.{chars}
use lib.Utf8.{encode}
use Rattle.ux_image.specs.Codes.{pairs_between, rebuilt_lemma}
use Rattle.ux_image.specs.Pieces.{pieces, separators}
use Rattle.ux_image.specs.declared.code.Pair.{Pair}

abbrev pair : ℕ → List ℕ → Pair
pair taken added = record { taken = taken; added = added }

-- the pieces of `well-known fact`
cut : pieces (codes "well-known fact") ≡ codes "well" ∷ codes "known" ∷ codes "fact" ∷ []
cut = refl

signs : separators (codes "well-known fact") ≡ 45 ∷ 32 ∷ []
signs = refl

cats : pairs_between (codes "cats") (codes "cat") ≡ pair 1 [] ∷ []
unfolding chars encode
cats = refl

sits : pairs_between (codes "sits") (codes "sit") ≡ pair 1 [] ∷ []
unfolding chars encode
sits = refl

children : pairs_between (codes "children") (codes "child") ≡ pair 3 [] ∷ []
unfolding chars encode
children = refl

shells : pairs_between (codes "acorn shells") (codes "acorn shell") ≡ pair 0 [] ∷ pair 1 [] ∷ []
unfolding chars encode
shells = refl

ate : pairs_between (codes "ate") (codes "eat") ≡ pair 3 (codes "eat") ∷ []
unfolding chars encode
ate = refl

-- the separators differ, so the pair is of the whole
known : pairs_between (codes "well-known") (codes "well known") ≡ pair 6 (codes " known") ∷ []
unfolding chars encode
known = refl

-- a pair takes no more off than there is, and one without a piece doesn't count
made : rebuilt_lemma (pair 9 (codes "a") ∷ pair 1 [] ∷ pair 1 (codes "b") ∷ []) (codes "to be")
    ≡ codes "a b"
unfolding chars encode
made = refl

-- a piece without a pair stays; nothing that is made gives the form
kept : rebuilt_lemma [] (codes "to be") ≡ codes "to be"
unfolding chars encode
kept = refl

form : rebuilt_lemma (pair 5 [] ∷ []) (codes "to be") ≡ codes "to be"
unfolding chars encode
form = refl
