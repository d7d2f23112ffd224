-- A literal fits a text of plain characters only where it is this text.
use Rattle.std.proofs.Common.{◌≡◌, ◌↔◌, ◌≤◌, ℕ, length, List, [], ◌∷◌, ◌++◌, ◌⊎◌, inl, inr, All, refl, sym, ◌∙◌, ap, subst}
use Rattle.std.specs.Prelude.{Option, Some, Contains, encode_utf8}
use Rattle.std.specs.List.{AllZip}
use Rattle.std.specs.Str.{IsUtf8, chars}
use Rattle.std.proofs.Math.Utf8.{encodes}
use Rattle.std.proofs.lemmas.Str.{chars_past_char, encodes-chars}
use Rattle.std.proofs.lemmas.List.Elements.{All-cons, All-head, All-tail}
use Rattle.ux_alphabet.specs.Letters.{Letters, Fits}
use Rattle.ux_net.specs.declared.label.Label.{Label}
use Rattle.ux_net.specs.declared.label.Label.TheVariants.{CaseFolded, CaseExact}
use Rattle.ux_base.specs.Distinct.{StandOnce}
use Rattle.ux_tokens.specs.Numbers.{texts_in}
use Rattle.ux_walk.specs.declared.words.Words.{Words}
use Rattle.ux_walk.specs.Literals.{AreReady, FitsText, IsFitted, IsFixed, IsOf, IsPlainChar}

-- one more character of a text that has a property
pub all_turn : (P : ℕ → Type 0) (Whole : Type 0) (text rest : List ℕ) (c : ℕ) → IsUtf8 text →
    text ≡ encode_utf8 c ++ rest → P c → (All P (chars text) → Whole) → All P (chars rest) → Whole
all_turn P Whole text rest c utf8 is this whole others =
    whole (subst (All P) (sym (chars_past_char text rest c utf8 is))
    (All-cons P c (chars rest) this others))

module _ (alphabet : Letters) where
  -- characters that fit plain ones are these
  plain_same : (entry text : List ℕ) → AllZip (Fits alphabet) entry text →
      All (IsPlainChar alphabet) text → entry ≡ text
  plain_same [] [] fits plain = refl
  plain_same [] (c ∷ text) fits plain = absurd fits
  plain_same (e ∷ entry) [] fits plain = absurd fits
  plain_same (e ∷ entry) (c ∷ text) fits plain =
      let first : e ≡ c = All-head (IsPlainChar alphabet) c text plain e fits.0 in
      let later : entry ≡ text =
      plain_same entry text fits.1 (All-tail (IsPlainChar alphabet) c text plain) in
      cc

  -- each character fits itself
  fits_itself : (cs : List ℕ) → AllZip (Fits alphabet) cs cs
  fits_itself [] = tt
  fits_itself (c ∷ cs) = (inl refl, fits_itself cs)

  -- a literal fits its own text
  fits_if_fixed : (label : Label) (text : List ℕ) → IsFixed label text →
      FitsText alphabet label text
  fits_if_fixed (CaseFolded entry) text is =
      subst (λ (t : List ℕ). AllZip (Fits alphabet) (chars entry) (chars t)) (sym is)
      (fits_itself (chars entry))
  fits_if_fixed (CaseExact exact) text is = is
  fits_if_fixed other text is = absurd is

  -- a literal that fits a text of plain characters is this text
  fixed_if_plain : (label : Label) (text : List ℕ) →
      ((entry : List ℕ) → label ≡ CaseFolded entry → IsUtf8 entry) → IsUtf8 text →
      All (IsPlainChar alphabet) (chars text) → FitsText alphabet label text → IsFixed label text
  fixed_if_plain (CaseFolded entry) text entry_utf8 utf8 plain fits =
      sym (encodes-chars text utf8)
      ∙ (ap encodes (sym (plain_same (chars entry) (chars text) fits plain))
      ∙ encodes-chars entry (entry_utf8 entry refl))
  fixed_if_plain (CaseExact exact) text entry_utf8 utf8 plain fits = fits
  fixed_if_plain other text entry_utf8 utf8 plain fits = absurd fits

  -- what is fitted has the literal's text, or is one of those that others may fit
  module _ (texts : List (List ℕ)) (words : Words) (ready : AreReady alphabet texts words)
      (label : Label) (entry_utf8 : (entry : List ℕ) → label ≡ CaseFolded entry → IsUtf8 entry) where
    fitted_apart : (n : ℕ) → IsFitted alphabet texts label n
        ↔ (IsOf texts label n ⊎ (Contains words.raised.items n × IsFitted alphabet texts label n))
    fitted_apart n = (
      λ fitted. elim (ready.raised_are n fitted.0 fitted.1) [
        | inl raised ↦ inr (raised, fitted)
        | inr plain ↦ inl (
          fitted.0,
          fitted.1,
          fixed_if_plain label fitted.0 entry_utf8 (ready.utf8 n fitted.0 fitted.1) plain
              fitted.2,
        )
      ],
      λ either. elim either [
        | inl is ↦ (is.0, is.1, fits_if_fixed label is.0 is.2)
        | inr raised ↦ raised.1
      ],
    )

    -- so the number found by the text, and those of the fitted others, are all that are fitted
    pub all_fitted : (found : Option ℕ) (first items numbers : List ℕ) →
        (StandOnce (texts_in words.texts) → length (texts_in words.texts) ≤ 4294967296 →
        (n : ℕ) → (found ≡ Some n) ↔ IsOf (texts_in words.texts) label n) →
        ((n : ℕ) → Contains first n ↔ (found ≡ Some n)) → items ≡ words.raised.items →
        ((n : ℕ) → Contains numbers n ↔ (Contains first n
        ⊎ (Contains items n × IsFitted alphabet (texts_in words.texts) label n))) →
        (n : ℕ) → Contains numbers n ↔ IsFitted alphabet texts label n
    all_fitted found first items numbers by_text firsts same listed n = (
      λ there. (fitted_apart n).1 (elim ((list n).0 there) [
        | inl one ↦ inl ((number n).0 ((firsts n).0 one))
        | inr other ↦ inr (subst (λ (l : List ℕ). Contains l n) same other.0, other.1)
      ]),
      λ fitted. (list n).1 (elim ((fitted_apart n).0 fitted) [
        | inl one ↦ inl ((firsts n).1 ((number n).1 one))
        | inr other ↦ inr (subst (λ (l : List ℕ). Contains l n) (sym same) other.0, other.1)
      ]),
    )
      where
        number : (m : ℕ) → (found ≡ Some m) ↔ IsOf texts label m
        number = subst (λ (l : List (List ℕ)). StandOnce l → length l ≤ 4294967296 →
            (m : ℕ) → (found ≡ Some m) ↔ IsOf l label m) ready.texts_are by_text ready.once
            ready.few

        list : (m : ℕ) → Contains numbers m
            ↔ (Contains first m ⊎ (Contains items m × IsFitted alphabet texts label m))
        list = subst (λ (l : List (List ℕ)). (m : ℕ) → Contains numbers m
            ↔ (Contains first m ⊎ (Contains items m × IsFitted alphabet l label m)))
            ready.texts_are listed
