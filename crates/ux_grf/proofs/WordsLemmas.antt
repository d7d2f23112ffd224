-- The first run of a text is what stands before its first gap.
use Rattle.std.proofs.Common.{arith, ◌≡◌, ℕ, zero, suc, ◌<◌, ◌+◌, ◌-◌, List, [], ◌∷◌, ◌++◌, refl, sym, ◌∙◌, ap, cond, Bool, true, false, length, take, drop, get_or, ◌⊎◌, inl, inr, eqb, ◌||◌}
use Rattle.std.specs.List.{filter, slice_range}
use Rattle.std.proofs.Math.Seq.{drop-length}
use Rattle.std.proofs.lemmas.Bool.{eqb-true}
use Rattle.ux_grf.specs.declared.words.Gap.{Gap}
use Rattle.ux_grf.specs.declared.words.Gap.TheVariants.{Spaces, Blanks}
use Rattle.ux_grf.specs.Words.{is_gap, with_byte, runs_of, has_byte, words_of, HasNoGapBefore, IsFirstGap}

pub or_true : (a b : Bool) → (a || b) ≡ true → (a ≡ true) ⊎ (b ≡ true)
or_true true b e = inl refl
or_true false b e = inr e

-- the words of runs are those of the first run and those of the others
pub words-first : (run : List ℕ) (runs : List (List ℕ)) →
    filter has_byte (run ∷ runs) ≡ filter has_byte (run ∷ []) ++ filter has_byte runs
words-first [] runs = refl
words-first (b ∷ run) runs = refl

module _ (gap : Gap) where
  -- a gap ends an empty run, and another byte belongs to the first run
  pub runs_of-cut : (b : ℕ) (text : List ℕ) → is_gap gap b ≡ true →
      runs_of gap (b ∷ text) ≡ [] ∷ runs_of gap text
  runs_of-cut b text e = ap (λ t. cond t ([] ∷ runs_of gap text) (with_byte b (runs_of gap text))) e

  pub runs_of-passed : (b : ℕ) (text : List ℕ) → is_gap gap b ≡ false →
      runs_of gap (b ∷ text) ≡ with_byte b (runs_of gap text)
  runs_of-passed b text e =
      ap (λ t. cond t ([] ∷ runs_of gap text) (with_byte b (runs_of gap text))) e

  runs_of-gap : (text : List ℕ) (end : ℕ) → end < length text → HasNoGapBefore gap text end →
      is_gap gap (get_or text end 0) ≡ true →
      runs_of gap text ≡ take end text ∷ runs_of gap (drop (suc end) text)
  runs_of-gap [] end lt none here = absurd (omega (arith, lt))
  runs_of-gap (b ∷ text) zero lt none here = runs_of-cut b text here
  runs_of-gap (b ∷ text) (suc end) lt none here =
      runs_of-passed b text (none 0 (omega arith))
      ∙ ap (with_byte b)
      (runs_of-gap text end (omega (arith, lt)) (λ k l. none (suc k) (omega (arith, l))) here)

  runs_of-last : (text : List ℕ) → HasNoGapBefore gap text (length text) →
      runs_of gap text ≡ text ∷ []
  runs_of-last [] none = refl
  runs_of-last (b ∷ text) none =
      runs_of-passed b text (none 0 (omega arith))
      ∙ ap (with_byte b) (runs_of-last text (λ k l. none (suc k) (omega (arith, l))))

  -- the first word, where a gap ends it
  pub words_of-gap : (text word rest : List ℕ) (end : ℕ) → IsFirstGap gap text end →
      word ≡ slice_range text 0 end → rest ≡ drop (end + 1) text →
      words_of gap text ≡ filter has_byte (word ∷ []) ++ words_of gap rest
  words_of-gap text word rest end first is_word is_rest =
      let n : suc end ≡ end + 1 = omega arith in
      let whole : end - 0 ≡ end = omega arith in
      let same : take end text ≡ word = sym (is_word ∙ ap (λ k. take k text) whole) in
      ap (filter has_byte) (runs_of-gap text end first.inside first.none first.here)
      ∙ (words-first (take end text) (runs_of gap (drop (suc end) text))
      ∙ (ap (λ w. filter has_byte (w ∷ []) ++ words_of gap (drop (suc end) text)) same
      ∙ ap (λ r. filter has_byte (word ∷ []) ++ words_of gap r)
      (ap (λ k. drop k text) n ∙ sym is_rest)))

  -- the only word
  pub words_of-last : (text rest : List ℕ) → HasNoGapBefore gap text (length text) →
      rest ≡ drop (length text) text →
      words_of gap text ≡ filter has_byte (text ∷ []) ++ words_of gap rest
  words_of-last text rest none is_rest =
      ap (filter has_byte) (runs_of-last text none)
      ∙ (words-first text []
      ∙ ap (λ r. filter has_byte (text ∷ []) ++ words_of gap r)
      (sym (is_rest ∙ drop-length text)))

-- a gap is ASCII
pub gap_is_ascii : (gap : Gap) (b : ℕ) → is_gap gap b ≡ true → b < 128
gap_is_ascii Spaces b e = let h : b ≡ 32 = eqb-true b 32 e in omega arith
gap_is_ascii Blanks b e = elim (or_true (eqb b 32) (eqb b 9) e) [
  | inl h ↦ let s : b ≡ 32 = eqb-true b 32 h in omega arith
  | inr h ↦ let t : b ≡ 9 = eqb-true b 9 h in omega arith
]
