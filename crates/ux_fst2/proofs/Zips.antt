-- Two lists whose members belong together one by one, as both grow.
use Rattle.std.proofs.Common.{◌≡◌, ℕ, zero, suc, ◌+◌, ◌<◌, List, [], ◌∷◌, ◌++◌, length, take, get_or, refl, sym, ◌∙◌, ap, subst}
use Rattle.std.specs.Prelude.{Some, slice_get}
use Rattle.std.specs.List.{AllZip}
use Rattle.std.proofs.lemmas.List.{take_more}
use Rattle.std.proofs.lemmas.Option.{none-some, same_Some}

module _ {A B : Type 0} (R : A → B → Type 0) where
  -- one more of both
  pub zip-push : (xs : List A) (ys : List B) (x : A) (y : B) → AllZip R xs ys → R x y →
      AllZip R (xs ++ x ∷ []) (ys ++ y ∷ [])
  zip-push [] [] x y all here = (here, tt)
  zip-push [] (z ∷ ys) x y all here = absurd all
  zip-push (w ∷ xs) [] x y all here = absurd all
  zip-push (w ∷ xs) (z ∷ ys) x y all here = (all.0, zip-push xs ys x y all.1 here)

  -- one more of both, where the first is taken from a list
  pub zip-more : (xs : List A) (ys : List B) (i : ℕ) (x : A) (y : B) → i < length xs →
      x ≡ get_or xs i x → AllZip R (take i xs) ys → R x y →
      AllZip R (take (i + 1) xs) (ys ++ y ∷ [])
  zip-more xs ys i x y lt at all here =
      let front = take_more xs i x lt ∙ ap (λ (z : A). take i xs ++ z ∷ []) (sym at) in
      subst (λ (l : List A). AllZip R l (ys ++ y ∷ [])) (sym front)
      (zip-push (take i xs) ys x y all here)

  -- the same, where the element is read with a default
  pub zip-more_at : (xs : List A) (ys : List B) (i : ℕ) (d : A) (y : B) → i < length xs →
      AllZip R (take i xs) ys → R (get_or xs i d) y → AllZip R (take (i + 1) xs) (ys ++ y ∷ [])
  zip-more_at xs ys i d y lt all here =
      subst (λ (l : List A). AllZip R l (ys ++ y ∷ [])) (sym (take_more xs i d lt))
      (zip-push (take i xs) ys (get_or xs i d) y all here)

  -- one more of both, where the second is taken from a list
  pub zip-more_right : (xs : List A) (ys : List B) (i : ℕ) (x : A) (y : B) → i < length ys →
      y ≡ get_or ys i y → AllZip R xs (take i ys) → R x y →
      AllZip R (xs ++ x ∷ []) (take (i + 1) ys)
  zip-more_right xs ys i x y lt at all here =
      let front = take_more ys i y lt ∙ ap (λ (z : B). take i ys ++ z ∷ []) (sym at) in
      subst (λ (l : List B). AllZip R (xs ++ x ∷ []) l) (sym front)
      (zip-push xs (take i ys) x y all here)

  -- what belongs to a member of the first list
  pub zip-at : (xs : List A) (ys : List B) (i : ℕ) (x : A) → AllZip R xs ys →
      slice_get xs i ≡ Some x → (y : B) × (slice_get ys i ≡ Some y) × R x y
  zip-at [] ys i x all at = absurd (none-some x at)
  zip-at (w ∷ xs) [] i x all at = absurd all
  zip-at (w ∷ xs) (z ∷ ys) zero x all at =
      (z, refl, subst (λ (v : A). R v z) (same_Some w x at) all.0)
  zip-at (w ∷ xs) (z ∷ ys) (suc i) x all at = zip-at xs ys i x all.1 at

  -- and to one of the second list
  pub zip-back : (xs : List A) (ys : List B) (i : ℕ) (y : B) → AllZip R xs ys →
      slice_get ys i ≡ Some y → (x : A) × (slice_get xs i ≡ Some x) × R x y
  zip-back xs [] i y all at = absurd (none-some y at)
  zip-back [] (z ∷ ys) i y all at = absurd all
  zip-back (w ∷ xs) (z ∷ ys) zero y all at =
      (w, refl, subst (λ (v : B). R w v) (same_Some z y at) all.0)
  zip-back (w ∷ xs) (z ∷ ys) (suc i) y all at = zip-back xs ys i y all.1 at

  -- there are as many of both
  pub zip-length : (xs : List A) (ys : List B) → AllZip R xs ys → length xs ≡ length ys
  zip-length [] [] all = refl
  zip-length [] (z ∷ ys) all = absurd all
  zip-length (w ∷ xs) [] all = absurd all
  zip-length (w ∷ xs) (z ∷ ys) all = ap suc (zip-length xs ys all.1)

-- what belongs together in one way does so in another
pub zip-lift : {A B : Type 0} (R S : A → B → Type 0) → ((x : A) (y : B) → R x y → S x y) →
    (xs : List A) (ys : List B) → AllZip R xs ys → AllZip S xs ys
zip-lift R S lift [] [] all = tt
zip-lift R S lift [] (y ∷ ys) all = absurd all
zip-lift R S lift (x ∷ xs) [] all = absurd all
zip-lift R S lift (x ∷ xs) (y ∷ ys) all = (lift x y all.0, zip-lift R S lift xs ys all.1)
