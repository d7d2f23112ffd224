-- The texts of neighbouring tokens, joined.
use Rattle.std.specs.Prelude.{◌≡◌, ℕ, zero, suc, ◌+◌, ◌-◌, ◌≤◌, List, [], ◌∷◌, ◌++◌, refl, take, drop}
use Rattle.std.proofs.Common.{◌∙◌, ap, sym, arith, append_assoc, zero-add}
use Rattle.std.proofs.lemmas.List.{drop-drop, append-nil}
use Rattle.ux_base.specs.declared.settings.Mode.{Mode}
use Rattle.ux_base.specs.declared.settings.Mode.TheVariants.{Ignore, Merge, Replace}
use Rattle.ux_tokens.specs.Tokens.{Token, joined}
use Rattle.ux_outputs.specs.Rendering.{text_between, text_taken}

joined-append : (a b : List Token) → joined (a ++ b) ≡ joined a ++ joined b
joined-append [] b = refl
joined-append (token ∷ a) b =
    ap (λ x. token.text ++ x) (joined-append a b) ∙ sym
    (append_assoc token.text (joined a) (joined b))

suc-plus : (a b : ℕ) → suc a + b ≡ suc (a + b)
suc-plus a b = omega arith

take-add : (a b : ℕ) (xs : List Token) → take (a + b) xs ≡ take a xs ++ take b (drop a xs)
take-add zero b xs = ap (λ n. take n xs) (zero-add b)
take-add (suc a) b [] = ap (λ n. take n []) (suc-plus a b) ∙ nothing b
  where
    nothing : (b : ℕ) → let none : List Token = [] in none ≡ take b none
    nothing zero = refl
    nothing (suc b) = refl
take-add (suc a) b (x ∷ xs) = ap (λ n. take n (x ∷ xs)) (suc-plus a b) ∙ ap (λ l. x ∷ l)
    (take-add a b xs)

module _ (tokens : List Token) where
  -- no text stands between a position and itself, nor an earlier one
  pub text_between-none : (from to : ℕ) → to ≤ from → text_between tokens from to ≡ []
  text_between-none from to le = ap (λ n. joined (take n (drop from tokens))) (none from to le)
    where
      none : (from to : ℕ) → to ≤ from → to - from ≡ 0
      none from to le = omega arith

  -- the text between two positions goes on to a third
  pub text_between-join : (f p k : ℕ) → f ≤ p → p ≤ k →
      text_between tokens f p ++ text_between tokens p k ≡ text_between tokens f k
  text_between-join f p k le le' =
      let later : drop p tokens ≡ drop (p - f) (drop f tokens) = sym
      (drop-drop (p - f) f tokens ∙ ap (λ n. drop n tokens) (whole f p le)) in
      let parts = take-add (p - f) (k - p) (drop f tokens) in
      ap (λ l. joined (take (p - f) (drop f tokens)) ++ joined (take (k - p) l)) later
      ∙ (sym (joined-append (take (p - f) (drop f tokens))
      (take (k - p) (drop (p - f) (drop f tokens))))
      ∙ (ap joined (sym parts) ∙ ap (λ n. joined (take n (drop f tokens))) (sum f p k le le')))
    where
      whole : (f p : ℕ) → f ≤ p → f + (p - f) ≡ p
      whole f p le = omega arith

      sum : (f p k : ℕ) → f ≤ p → p ≤ k → (p - f) + (k - p) ≡ k - f
      sum f p k le le' = omega arith

  -- nothing is taken between a position and itself
  pub text_taken-none : (mode : Mode) (p : ℕ) → text_taken mode tokens p p ≡ []
  text_taken-none Ignore p = text_between-none p p (omega arith)
  text_taken-none Merge p = text_between-none p p (omega arith)
  text_taken-none Replace p = refl

  -- what is taken goes on
  pub text_taken-join : (mode : Mode) (f p k : ℕ) → f ≤ p → p ≤ k →
      text_taken mode tokens f p ++ text_taken mode tokens p k ≡ text_taken mode tokens f k
  text_taken-join Ignore f p k le le' = text_between-join f p k le le'
  text_taken-join Merge f p k le le' = text_between-join f p k le le'
  text_taken-join Replace f p k le le' = refl

  -- a text, with nothing taken after it
  pub append-text_taken-none : (text : List ℕ) (mode : Mode) (p : ℕ) →
      text ++ text_taken mode tokens p p ≡ text
  append-text_taken-none text mode p =
      ap (λ t. text ++ t) (text_taken-none mode p) ∙ append-nil text
