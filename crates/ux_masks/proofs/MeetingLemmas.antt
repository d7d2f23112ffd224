-- A search through a list of texts.
use Rattle.std.proofs.Common.{arith, ◌≡◌, ℕ, ◌+◌, ◌<◌, ◌≤◌, zero, suc, Bool, true, false, List, [], ◌∷◌, refl, sym, ◌∙◌, ap, subst, length, get_or}
use Rattle.std.specs.Prelude.{◌==◌, Contains}
use Rattle.std.proofs.lemmas.Bool.{both_ways}
use borrow.Author.Count.{below_more}
use Rattle.ux_masks.specs.Meets.{HasCharacters}

same_default : (xs : List (List ℕ)) (i : ℕ) (d e : List ℕ) → i < length xs →
    get_or xs i d ≡ get_or xs i e
same_default [] i d e lt = absurd (omega (arith, lt))
same_default (x ∷ xs) zero d e lt = refl
same_default (x ∷ xs) (suc i) d e lt = same_default xs i d e (omega (arith, lt))

module _ (P : List ℕ → Type 0) where
  abbrev pub Found : List (List ℕ) → Type 0
  Found xs = (x : List ℕ) × Contains xs x × P x

  -- an item that passes is found
  pub found_at : (xs items : List (List ℕ)) (i : ℕ) (item : List ℕ) → items ≡ xs →
      i < length items → item ≡ get_or items i item → P item → Found xs
  found_at xs items i item e lt is p =
      (item, subst (λ (l : List (List ℕ)). Contains l item) e (i, lt, sym is), p)

  -- an item more that doesn't pass
  pub none_more : (items : List (List ℕ)) (i : ℕ) (item : List ℕ) →
      ((k : ℕ) → k < i → P (get_or items k []) → ⊥) → i < length items →
      item ≡ get_or items i item → (P item → ⊥) → (k : ℕ) → k < i + 1 → P (get_or items k []) → ⊥
  none_more items i item before lt is not =
      below_more (λ k. P (get_or items k []) → ⊥) i before
      (λ p. not (subst P (same_default items i [] item lt ∙ sym is) p))

  -- none passes
  pub none_found : (xs items : List (List ℕ)) (i : ℕ) → items ≡ xs → length items ≤ i →
      ((k : ℕ) → k < i → P (get_or items k []) → ⊥) → Found xs → ⊥
  none_found xs items i e end none f =
      let at = subst (λ (l : List (List ℕ)). Contains l f.0) (sym e) f.1 in
      let lt : at.0 < i = omega (arith, at.1, end) in
      none at.0 lt
      (subst P (sym (same_default items at.0 [] f.0 at.1 ∙ at.2)) f.2)

-- a list that isn't empty
pub some_texts : (items xs : List (List ℕ)) (t : Bool) → items ≡ xs → t ≡ (length items == 0) →
    t ≡ false → xs ≡ [] → ⊥
some_texts items xs t e is not none =
    let empty : (length items == 0) ≡ true = ap (λ l. length l == 0) (e ∙ none) in
    both_ways t not (is ∙ empty)

-- what a test of a code says of the code itself
pub same_characters : (code item alt alternative : List ℕ) → code ≡ item → alt ≡ alternative →
    HasCharacters code alt → HasCharacters item alternative
same_characters code item alt alternative e f h =
    subst (λ (t : List ℕ). HasCharacters t alternative) e (subst (HasCharacters code) f h)
