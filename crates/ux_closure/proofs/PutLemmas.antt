-- What a list has after an element was put behind the others.
use Rattle.std.proofs.Common.{arith, ◌≡◌, ℕ, zero, suc, ◌+◌, ◌<◌, ◌≤◌, List, [], ◌∷◌, ◌++◌, ◌⊎◌, ◌↔◌, inl, inr, refl, sym, ◌∙◌, ap, subst, Bool, true, false, cond, length, take, get_or}
use Rattle.std.specs.Prelude.{Contains}
use Rattle.std.specs.List.{list_any}
use Rattle.std.proofs.lemmas.List.{take_more, take_all}
use Rattle.std.proofs.lemmas.List.Elements.{Contains-append_left, Contains-push_cases, Contains-push}
use Rattle.indexmap.specs.IndexSet.{insert_key}
use Rattle.indexmap.proofs.CallerLemmas.{Contains-list_any}
use Rattle.ux_closure.specs.Meeting.{IsPut}

module _ {A : Type 0} where
  pub item_at : (xs : List A) (i : ℕ) (d : A) → i < length xs →
      get_or xs i d ≡ get_or xs i (get_or xs i d)
  item_at [] i d lt = absurd (omega (arith, lt))
  item_at (x ∷ xs) zero d lt = refl
  item_at (x ∷ xs) (suc i) d lt = item_at xs i d (omega (arith, lt))

  -- a set puts an element so
  pub inserts_put : (eq : A → A → Bool) → ((a b : A) → eq a b ≡ true → a ≡ b) →
      (ks new : List A) (k : A) → new ≡ insert_key eq ks k → IsPut ks new k
  inserts_put eq same ks new k is = by (list_any (eq k) ks) refl
    where
      by : (b : Bool) → list_any (eq k) ks ≡ b → IsPut ks new k
      by true e = inl (
        is ∙ ap (λ c. cond c ks (ks ++ k ∷ [])) e,
        Contains-list_any eq same ks k e,
      )
      by false e = inr (is ∙ ap (λ c. cond c ks (ks ++ k ∷ [])) e)

  -- the list has what it had, and the element
  pub put_has : (old new : List A) (k : A) → IsPut old new k → (x : A) →
      Contains new x ↔ (Contains old x ⊎ (x ≡ k))
  put_has old new k put x = (
    λ h. elim put [
      | inl o ↦ inl (subst (λ (l : List A). Contains l x) o.0 h)
      | inr n ↦ elim (Contains-push_cases old k x (subst (λ (l : List A). Contains l x) n h)) [
        | inl o ↦ inl o
        | inr e ↦ inr (sym e)
      ]
    ],
    λ h. elim h [
      | inl o ↦ kept o
      | inr e ↦ subst (λ (y : A). Contains new y) (sym e) itself
    ],
  )
    where
      kept : Contains old x → Contains new x
      kept h = elim put [
        | inl o ↦ subst (λ (l : List A). Contains l x) (sym o.0) h
        | inr n ↦ subst (λ (l : List A). Contains l x) (sym n)
            (Contains-append_left old (k ∷ []) x h)
      ]

      itself : Contains new k
      itself = elim put [
        | inl o ↦ subst (λ (l : List A). Contains l k) (sym o.0) o.1
        | inr n ↦ subst (λ (l : List A). Contains l k) (sym n) (Contains-push old k)
      ]

  -- so far the elements of another list were put
  abbrev pub HasAll : (now all : List A) → Type 0
  HasAll now all = (x : A) → Contains now x ↔ Contains all x

  -- and one more of them
  pub has_next : (now new all : List A) (i : ℕ) (k : A) → i < length all → k ≡ get_or all i k →
      HasAll now (take i all) → IsPut now new k → HasAll new (take (i + 1) all)
  has_next now new all i k lt is so_far put x =
      let more : take (i + 1) all ≡ take i all ++ k ∷ [] = take_more all i k lt
      ∙ ap (λ y. take i all ++ y ∷ []) (sym is) in
      let has = put_has now new k put x in (
        λ h. subst (λ (l : List A). Contains l x) (sym more) (elim (has.0 h) [
          | inl o ↦ Contains-append_left (take i all) (k ∷ []) x ((so_far x).0 o)
          | inr e ↦ subst (λ (y : A). Contains (take i all ++ k ∷ []) y) (sym e)
              (Contains-push (take i all) k)
        ]),
        λ h. has.1 (elim (Contains-push_cases (take i all) k x
            (subst (λ (l : List A). Contains l x) more h)) [
              | inl o ↦ inl ((so_far x).1 o)
              | inr e ↦ inr (sym e)
            ]),
      )

  pub has_all : (now all : List A) (i : ℕ) → length all ≤ i → HasAll now (take i all) →
      HasAll now all
  has_all now all i past has =
      subst (λ (l : List A). HasAll now l) (take_all i all past) has
