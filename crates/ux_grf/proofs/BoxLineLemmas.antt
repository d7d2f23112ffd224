-- The words of a line, read as numbers one by one.
use Rattle.std.proofs.Common.{◌≡◌, ℕ, ◌+◌, ◌<◌, List, [], ◌∷◌, ◌++◌, refl, sym, ◌∙◌, ap, true, false, length, take, get_or, map, Some, None, cond, Bor, subst}
use Rattle.std.specs.List.{list_all}
use Rattle.std.proofs.lemmas.List.{take_more, map-append, get_or-map, length-map}
use Rattle.std.proofs.lemmas.List.Folds.{list_all_more, list_all_at}
use Rattle.ux_grf.specs.Numbers.{is_number, value_of}
use Rattle.ux_grf.specs.BoxLine.{numbers_in}

module _ (words : List (List ℕ)) (i : ℕ) (lt : i < length words) where
  -- one more word is a number
  pub all_more : list_all is_number (take i words) ≡ true → is_number (get_or words i []) ≡ true →
      list_all is_number (take (i + 1) words) ≡ true
  all_more before here = list_all_more is_number words i [] lt ∙ rw (before, here) refl

  pub values_more : (values more : List ℕ) → values ≡ map value_of (take i words) →
      more ≡ values ++ value_of (get_or words i []) ∷ [] → more ≡ map value_of (take (i + 1) words)
  values_more values more before is =
      is ∙ (ap (λ vs. vs ++ value_of (get_or words i []) ∷ []) before
      ∙ (sym (map-append value_of (take i words) (get_or words i [] ∷ []))
      ∙ ap (map value_of) (sym (take_more words i [] lt))))

  -- a word that is no number leaves no values
  pub numbers_in-bad : is_number (get_or words i []) ≡ false → None ≡ numbers_in words
  numbers_in-bad here =
      ap (λ t. cond t (Some (map value_of words)) None) (sym
      (list_all_at is_number words i [] lt here))

-- what lent texts hold
abbrev pub texts : List (Bor (List ℕ)) → List (List ℕ)
texts words = map (λ w. w.now) words

pub texts_inside : (words : List (Bor (List ℕ))) (i : ℕ) → i < length words →
    i < length (texts words)
texts_inside words i lt = subst (λ n. i < n) (sym (length-map words (λ w. w.now))) lt

pub texts_at : (words : List (Bor (List ℕ))) (i : ℕ) (word : Bor (List ℕ)) → i < length words →
    (get_or words i word).now ≡ get_or (texts words) i []
texts_at words i word lt = sym (get_or-map (λ w. w.now) words i word [] lt)
