-- The elements of a set after one more.
use Rattle.std.proofs.Common.{arith, ◌≡◌, ℕ, zero, suc, ◌∙◌, List, [], ◌∷◌, ◌++◌, ◌⊎◌, ◌↔◌, inl, inr, refl, sym, ap, subst, Bool, Bor, true, false, cond, not, map, append-nil}
use Rattle.std.specs.Prelude.{Contains, Some, slice_get}
use Rattle.std.specs.List.{list_any, IsDistinct, AllByRecursion}
use Rattle.std.specs.Str.{bytes_eq}
use Rattle.std.proofs.lemmas.Slice.Eq.{bytes_eq-Decides}
use Rattle.std.proofs.lemmas.Option.{same_Some, slice_get_within}
use Rattle.std.proofs.lemmas.List.Elements.{Contains-append_left, Contains-push_cases, Contains-push}
use Rattle.indexmap.specs.IndexSet.{insert_key}
use Rattle.indexmap.proofs.CallerLemmas.{Contains-list_any}
use Rattle.ux_walk.specs.Groups.{Grows, IsAdded}
use Rattle.ux_walk.specs.Links.{AreOnce}

module _ {A : Type 0} (eq : A → A → Bool) (same : (a b : A) → eq a b ≡ true → a ≡ b) where
  pub inserted : (ks new : List A) (k : A) → new ≡ insert_key eq ks k → (x : A) →
      Contains new x ↔ (Contains ks x ⊎ (x ≡ k))
  inserted ks new k is x = subst (λ l. Contains l x ↔ (Contains ks x ⊎ (x ≡ k))) (sym is)
      (by (list_any (eq k) ks) refl)
    where
      by : (b : Bool) → list_any (eq k) ks ≡ b →
          Contains (insert_key eq ks k) x ↔ (Contains ks x ⊎ (x ≡ k))
      by true e = subst (λ l. Contains l x ↔ (Contains ks x ⊎ (x ≡ k)))
          (sym (ap (λ c. cond c ks (ks ++ k ∷ [])) e)) (
            λ h. inl h,
            λ h. elim h [
              | inl old ↦ old
              | inr new ↦ subst (Contains ks) (sym new) (Contains-list_any eq same ks k e)
            ],
          )
      by false e = subst (λ l. Contains l x ↔ (Contains ks x ⊎ (x ≡ k)))
          (sym (ap (λ c. cond c ks (ks ++ k ∷ [])) e)) (
            λ h. elim (Contains-push_cases ks k x h) [
              | inl old ↦ inl old
              | inr new ↦ inr (sym new)
            ],
            λ h. elim h [
              | inl old ↦ Contains-append_left ks (k ∷ []) x old
              | inr new ↦ subst (Contains (ks ++ k ∷ [])) (sym new) (Contains-push ks k)
            ],
          )

  -- the items after one more, and whether it is new
  pub added : (ks new : List A) (k : A) (is_new : Bool) → is_new ≡ not (list_any (eq k) ks) →
      new ≡ insert_key eq ks k → IsAdded ks new k is_new
  added ks new k is_new test is = record {
    grows = subst (λ (l : List A). Grows ks l) (sym is) (grown (list_any (eq k) ks));
    exact = inserted ks new k is;
    known = λ old. Contains-list_any eq same ks k (known (list_any (eq k) ks) (sym test ∙ old));
  }
    where
      grown : (b : Bool) → Grows ks (cond b ks (ks ++ k ∷ []))
      grown true = ([], sym (append-nil ks))
      grown false = (k ∷ [], refl)

      known : (b : Bool) → not b ≡ false → b ≡ true
      known true off = refl
      known false off = let no : true ≡ false = off in cc

each_at : {A : Type 0} (P : A → Type 0) (xs : List A) (j : ℕ) (x : A) → AllByRecursion P xs →
    slice_get xs j ≡ Some x → P x
each_at P [] j x each at = absurd (let w = slice_get_within [] j x at in omega (arith, w))
each_at P (y ∷ ys) zero x each at = subst P (same_Some y x at) each.0
each_at P (y ∷ ys) (suc j) x each at = each_at P ys j x each.1 at

module _ {A : Type 0} (eq : A → A → Bool) (own : (a : A) → eq a a ≡ true) where
  apart : (y x : A) → y ≡ x → eq y x ≡ false → ⊥
  apart y x e differ = let both : true ≡ false = sym (own y)
      ∙ (ap (λ (z : A). eq y z) e ∙ differ) in cc

  -- keys that are apart stand once
  pub are_once : (xs : List A) → IsDistinct eq xs → AreOnce xs
  unfolding IsDistinct
  are_once [] distinct i j x at there =
      absurd (let w = slice_get_within [] i x at in omega (arith, w))
  are_once (y ∷ ys) distinct zero zero x at there = refl
  are_once (y ∷ ys) distinct zero (suc j) x at there = absurd (apart y x (same_Some y x at)
      (each_at (λ z. eq y z ≡ false) ys j x distinct.0 there))
  are_once (y ∷ ys) distinct (suc i) zero x at there = absurd (apart y x (same_Some y x there)
      (each_at (λ z. eq y z ≡ false) ys i x distinct.0 at))
  are_once (y ∷ ys) distinct (suc i) (suc j) x at there =
      ap suc (are_once ys distinct.1 i j x at there)

-- a text is equal to one that is the same
pub text_itself : (a b : Bor (List ℕ)) → a.now ≡ b.now → bytes_eq a.now b.now ≡ true
text_itself a b same = (bytes_eq-Decides a.now b.now).1 same

module _ {A B : Type 0} (eq : A → A → Bool) (value : A → B)
    (own : (a b : A) → value a ≡ value b → eq a b ≡ true) where
  valued_at : (P : A → Type 0) (xs : List A) (j : ℕ) (b : B) → AllByRecursion P xs →
      slice_get (map value xs) j ≡ Some b → (x : A) × P x × (value x ≡ b)
  valued_at P [] j b each at =
      absurd (let none : List B = [] in let w = slice_get_within none j b at in omega (arith, w))
  valued_at P (y ∷ ys) zero b each at = (y, each.0, same_Some (value y) b at)
  valued_at P (y ∷ ys) (suc j) b each at = valued_at P ys j b each.1 at

  differ : (y : A) (ys : List A) (j : ℕ) (b : B) → AllByRecursion (λ z. eq y z ≡ false) ys →
      value y ≡ b → slice_get (map value ys) j ≡ Some b → ⊥
  differ y ys j b each is at =
      let x = valued_at (λ z. eq y z ≡ false) ys j b each at in
      let both : true ≡ false = sym (own y x.0 (is ∙ sym x.2)) ∙ x.1 in
      cc

  -- keys that are apart have values that stand once
  pub are_once_as : (xs : List A) → IsDistinct eq xs → AreOnce (map value xs)
  unfolding IsDistinct
  are_once_as [] distinct i j b at there =
      absurd (let none : List B = [] in let w = slice_get_within none i b at in omega (arith, w))
  are_once_as (y ∷ ys) distinct zero zero b at there = refl
  are_once_as (y ∷ ys) distinct zero (suc j) b at there =
      absurd (differ y ys j b distinct.0 (same_Some (value y) b at) there)
  are_once_as (y ∷ ys) distinct (suc i) zero b at there =
      absurd (differ y ys i b distinct.0 (same_Some (value y) b there) at)
  are_once_as (y ∷ ys) distinct (suc i) (suc j) b at there =
      ap suc (are_once_as ys distinct.1 i j b at there)
