-- Spaces and tabs are taken off a text's ends one by one.
use Rattle.std.proofs.Common.{arith, ◌≡◌, ℕ, suc, ◌<◌, ◌-◌, List, [], ◌∷◌, refl, sym, ◌∙◌, ap, subst, cond, true, false, length, take, drop, get_or}
use Rattle.std.proofs.lemmas.Bool.{false≢true}
use Rattle.ux_grf.specs.declared.words.Gap.TheVariants.{Blanks}
use Rattle.ux_grf.specs.Words.{is_gap}
use Rattle.ux_grf.specs.Lines.{without_front, without_back, put_front, begins_blank, ends_blank}

-- a text that begins or ends in a space or a tab isn't empty
pub begins_blank-some : (text : List ℕ) → begins_blank text ≡ true → 0 < length text
begins_blank-some [] e = absurd (false≢true e)
begins_blank-some (b ∷ text) e = omega arith

pub ends_blank-some : (text : List ℕ) → ends_blank text ≡ true → 0 < length text
ends_blank-some [] e = absurd (false≢true e)
ends_blank-some (b ∷ text) e = omega arith

-- one is taken off in front
pub without_front-more : (text : List ℕ) → begins_blank text ≡ true →
    without_front (drop 1 text) ≡ without_front text
without_front-more [] e = refl
without_front-more (b ∷ text) e =
    sym (ap (λ t. cond t (without_front text) (b ∷ text)) e)

pub without_front-all : (text : List ℕ) → begins_blank text ≡ false → without_front text ≡ text
without_front-all [] e = refl
without_front-all (b ∷ text) e = ap (λ t. cond t (without_front text) (b ∷ text)) e

-- one is taken off at the end
pub without_back-more : (text : List ℕ) → ends_blank text ≡ true →
    without_back (take (length text - 1) text) ≡ without_back text
without_back-more [] e = refl
without_back-more (b ∷ []) e =
    let n : suc 0 - 1 ≡ 0 = omega arith in
    ap (λ k. without_back (take k (b ∷ []))) n ∙ sym (ap (λ t. cond t [] (b ∷ [])) e)
without_back-more (b ∷ (c ∷ text)) e =
    let n : suc (suc (length text)) - 1 ≡ suc (suc (length text) - 1) = omega arith in
    ap (λ k. without_back (take k (b ∷ (c ∷ text)))) n
    ∙ ap (put_front b) (without_back-more (c ∷ text) (subst (λ k. is_gap Blanks (get_or
    (b ∷ (c ∷ text)) k 0) ≡ true) n e))

pub without_back-all : (text : List ℕ) → ends_blank text ≡ false → without_back text ≡ text
without_back-all [] e = refl
without_back-all (b ∷ []) e = ap (λ t. cond t [] (b ∷ [])) e
without_back-all (b ∷ (c ∷ text)) e =
    let n : suc (suc (length text)) - 1 ≡ suc (suc (length text) - 1) = omega arith in
    ap (put_front b) (without_back-all (c ∷ text) (subst (λ k. is_gap Blanks (get_or
    (b ∷ (c ∷ text)) k 0) ≡ false) n e))
