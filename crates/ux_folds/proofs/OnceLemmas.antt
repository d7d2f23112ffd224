-- The values of a set stand once.
use Rattle.std.proofs.Common.{arith, ◌≡◌, ℕ, zero, suc, ◌∙◌, List, [], ◌∷◌, refl, sym, ap, subst, Bool, true, false}
use Rattle.std.specs.Prelude.{Some, slice_get}
use Rattle.std.specs.List.{IsDistinct, AllByRecursion}
use Rattle.std.proofs.lemmas.Option.{same_Some, slice_get_within}
use Rattle.ux_folds.specs.Lists.{AreOnce}

each_at : {A : Type 0} (P : A → Type 0) (xs : List A) (j : ℕ) (x : A) → AllByRecursion P xs →
    slice_get xs j ≡ Some x → P x
each_at P [] j x each at = absurd (let w = slice_get_within [] j x at in omega (arith, w))
each_at P (y ∷ ys) zero x each at = subst P (same_Some y x at) each.0
each_at P (y ∷ ys) (suc j) x each at = each_at P ys j x each.1 at

module _ {A : Type 0} (eq : A → A → Bool) (own : (a : A) → eq a a ≡ true) where
  apart : (y x : A) → y ≡ x → eq y x ≡ false → ⊥
  apart y x e differ = let both : true ≡ false = sym (own y)
      ∙ (ap (λ (z : A). eq y z) e ∙ differ) in cc

  -- keys that are apart stand once
  pub are_once : (xs : List A) → IsDistinct eq xs → AreOnce xs
  unfolding IsDistinct
  are_once [] distinct i j x at there =
      absurd (let w = slice_get_within [] i x at in omega (arith, w))
  are_once (y ∷ ys) distinct zero zero x at there = refl
  are_once (y ∷ ys) distinct zero (suc j) x at there = absurd (apart y x (same_Some y x at)
      (each_at (λ z. eq y z ≡ false) ys j x distinct.0 there))
  are_once (y ∷ ys) distinct (suc i) zero x at there = absurd (apart y x (same_Some y x there)
      (each_at (λ z. eq y z ≡ false) ys i x distinct.0 at))
  are_once (y ∷ ys) distinct (suc i) (suc j) x at there =
      ap suc (are_once ys distinct.1 i j x at there)
