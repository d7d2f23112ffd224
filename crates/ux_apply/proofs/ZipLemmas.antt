-- Two lists whose members belong together one by one, as both grow.
use Rattle.std.proofs.Common.{◌≡◌, ℕ, zero, suc, ◌+◌, ◌<◌, List, [], ◌∷◌, ◌++◌, length, take, get_or, refl, sym, ◌∙◌, ap, subst}
use Rattle.std.specs.Prelude.{Some, slice_get}
use Rattle.std.specs.List.{AllZip}
use Rattle.std.proofs.lemmas.List.{take_more}
use Rattle.std.proofs.lemmas.Option.{none-some, same_Some}

module _ {A B : Type 0} (R : A → B → Type 0) where
  -- one more of both
  pub zip-push : (xs : List A) (ys : List B) (x : A) (y : B) → AllZip R xs ys → R x y →
      AllZip R (xs ++ x ∷ []) (ys ++ y ∷ [])
  zip-push [] [] x y all here = (here, tt)
  zip-push [] (z ∷ ys) x y all here = absurd all
  zip-push (w ∷ xs) [] x y all here = absurd all
  zip-push (w ∷ xs) (z ∷ ys) x y all here = (all.0, zip-push xs ys x y all.1 here)

  pub zip-more : (xs : List A) (ys : List B) (i : ℕ) (x : A) (y : B) → i < length xs →
      get_or xs i x ≡ x → AllZip R (take i xs) ys → R x y →
      AllZip R (take (i + 1) xs) (ys ++ y ∷ [])
  zip-more xs ys i x y lt at all here =
      let front = take_more xs i x lt ∙ ap (λ (z : A). take i xs ++ z ∷ []) at in
      subst (λ (l : List A). AllZip R l (ys ++ y ∷ [])) (sym front)
      (zip-push (take i xs) ys x y all here)

  -- there are as many of both
  pub zip-length : (xs : List A) (ys : List B) → AllZip R xs ys → length xs ≡ length ys
  zip-length [] [] all = refl
  zip-length [] (z ∷ ys) all = absurd all
  zip-length (w ∷ xs) [] all = absurd all
  zip-length (w ∷ xs) (z ∷ ys) all = ap suc (zip-length xs ys all.1)

  -- what belongs to a member of the first list
  pub zip-at : (xs : List A) (ys : List B) (i : ℕ) (x : A) → AllZip R xs ys →
      slice_get xs i ≡ Some x → (y : B) × (slice_get ys i ≡ Some y) × R x y
  zip-at [] ys i x all at = absurd (none-some x at)
  zip-at (w ∷ xs) [] i x all at = absurd all
  zip-at (w ∷ xs) (z ∷ ys) zero x all at =
      (z, refl, subst (λ (v : A). R v z) (same_Some w x at) all.0)
  zip-at (w ∷ xs) (z ∷ ys) (suc i) x all at = zip-at xs ys i x all.1 at

  -- and to one of the second list
  pub zip-back : (xs : List A) (ys : List B) (i : ℕ) (y : B) → AllZip R xs ys →
      slice_get ys i ≡ Some y → (x : A) × (slice_get xs i ≡ Some x) × R x y
  zip-back xs [] i y all at = absurd (none-some y at)
  zip-back [] (z ∷ ys) i y all at = absurd all
  zip-back (w ∷ xs) (z ∷ ys) zero y all at =
      (w, refl, subst (λ (v : B). R w v) (same_Some z y at) all.0)
  zip-back (w ∷ xs) (z ∷ ys) (suc i) y all at = zip-back xs ys i y all.1 at

  -- where the second list has two parts, so does the first
  pub zip-split : (xs : List A) (ys zs : List B) → AllZip R xs (ys ++ zs) →
      (front rest : List A) × (xs ≡ front ++ rest) × AllZip R front ys
  zip-split xs [] zs all = ([], xs, refl, tt)
  zip-split [] (z ∷ ys) zs all = absurd all
  zip-split (w ∷ xs) (z ∷ ys) zs all =
      let later = zip-split xs ys zs all.1 in
      (w ∷ later.0, later.1, ap (λ (l : List A). w ∷ l) later.2, (all.0, later.3))

  -- where the second list ends in a member, so does the first
  zip-last : (xs : List A) (ys : List B) (y : B) → AllZip R xs (ys ++ y ∷ []) →
      (front : List A) × (x : A) × (xs ≡ front ++ x ∷ []) × AllZip R front ys × R x y
  zip-last [] [] y all = absurd all
  zip-last [] (z ∷ ys) y all = absurd all
  zip-last (w ∷ []) [] y all = ([], w, refl, tt, all.0)
  zip-last (w ∷ v ∷ xs) [] y all = absurd all.1
  zip-last (w ∷ xs) (z ∷ ys) y all =
      let later = zip-last xs ys y all.1 in (
        w ∷ later.0,
        later.1,
        ap (λ (l : List A). w ∷ l) later.2,
        (all.0, later.3),
        later.4,
      )

  -- one more of the second list is one more of the first
  pub zip-taken : (xs : List A) (ys : List B) (i : ℕ) (y : B) → i < length ys →
      y ≡ get_or ys i y → AllZip R xs (take (i + 1) ys) →
      (front : List A) × (x : A) × (xs ≡ front ++ x ∷ []) × AllZip R front (take i ys) × R x y
  zip-taken xs ys i y lt at all =
      let front = take_more ys i y lt ∙ ap (λ (z : B). take i ys ++ z ∷ []) (sym at) in
      zip-last xs (take i ys) y (subst (λ (l : List B). AllZip R xs l) front all)

  -- to none belongs none
  pub zip-none : (xs : List A) → AllZip R xs [] → xs ≡ []
  zip-none [] all = refl
  zip-none (w ∷ xs) all = absurd all
