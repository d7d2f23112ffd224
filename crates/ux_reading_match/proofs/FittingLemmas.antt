-- How an entry's characters are matched with a text's from left to right.
use Rattle.std.proofs.Common.{◌≡◌, ℕ, ◌↔◌, List, [], ◌∷◌, ◌++◌, refl, subst}
use Rattle.std.specs.Prelude.{encode_utf8}
use Rattle.std.specs.List.{AllZip}
use Rattle.std.specs.Str.{IsUtf8, chars}
use Rattle.std.proofs.lemmas.Str.{chars_past_char}

module _ (R : ℕ → ℕ → Type 0) (Whole : Type 0) where
  -- one more character of each, of which the entry's fits
  pub fits_turn : (entry others text rest : List ℕ) (first c : ℕ) → IsUtf8 entry → IsUtf8 text →
      entry ≡ encode_utf8 first ++ others → text ≡ encode_utf8 c ++ rest → R first c →
      (Whole ↔ AllZip R (chars entry) (chars text)) → (Whole ↔ AllZip R (chars others) (chars rest))
  fits_turn entry others text rest first c entry_utf8 text_utf8 entry_is text_is fits same =
      let a : chars entry ≡ first ∷ chars others =
      chars_past_char entry others first entry_utf8 entry_is in
      let b : chars text ≡ c ∷ chars rest = chars_past_char text rest c text_utf8 text_is in
      let both : Whole ↔ AllZip R (first ∷ chars others) (c ∷ chars rest) =
      subst (λ (x : List ℕ). Whole ↔ AllZip R x (c ∷ chars rest)) a
      (subst (λ (x : List ℕ). Whole ↔ AllZip R (chars entry) x) b same) in
      (λ whole. (both.0 whole).1, λ w. both.1 (fits, w))

  -- the first of the entry doesn't fit the first of the text
  pub fits_not : (entry others text rest : List ℕ) (first c : ℕ) → IsUtf8 entry → IsUtf8 text →
      entry ≡ encode_utf8 first ++ others → text ≡ encode_utf8 c ++ rest → (R first c → ⊥) →
      (Whole ↔ AllZip R (chars entry) (chars text)) → Whole → ⊥
  fits_not entry others text rest first c entry_utf8 text_utf8 entry_is text_is not same whole =
      let a : chars entry ≡ first ∷ chars others =
      chars_past_char entry others first entry_utf8 entry_is in
      let b : chars text ≡ c ∷ chars rest = chars_past_char text rest c text_utf8 text_is in
      let both : AllZip R (first ∷ chars others) (c ∷ chars rest) =
      subst (λ (x : List ℕ). AllZip R x (c ∷ chars rest)) a
      (subst (λ (x : List ℕ). AllZip R (chars entry) x) b (same.0 whole)) in
      not both.0

  -- nothing is left of the entry, and something of the text
  pub fits_short : (entry text rest : List ℕ) (c : ℕ) → chars entry ≡ [] → IsUtf8 text →
      text ≡ encode_utf8 c ++ rest → (Whole ↔ AllZip R (chars entry) (chars text)) → Whole → ⊥
  fits_short entry text rest c none text_utf8 text_is same whole =
      let b : chars text ≡ c ∷ chars rest = chars_past_char text rest c text_utf8 text_is in
      let both : AllZip R [] (c ∷ chars rest) =
      subst (λ (x : List ℕ). AllZip R x (c ∷ chars rest)) none
      (subst (λ (x : List ℕ). AllZip R (chars entry) x) b (same.0 whole)) in
      both

  -- at the end of the text nothing is left of the entry
  pub fits_end : (entry text : List ℕ) → chars text ≡ [] →
      (Whole ↔ AllZip R (chars entry) (chars text)) → (Whole ↔ (chars entry ≡ []))
  fits_end entry text none same =
      go (chars entry) (subst (λ (x : List ℕ). Whole ↔ AllZip R (chars entry) x) none same)
    where
      go : (es : List ℕ) → (Whole ↔ AllZip R es []) → (Whole ↔ (es ≡ []))
      go [] both = (λ whole. refl, λ e. both.1 tt)
      go (x ∷ es) both = (λ whole. absurd (both.0 whole), λ e. cc)
