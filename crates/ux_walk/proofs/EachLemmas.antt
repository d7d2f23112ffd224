-- What is so of each element of a list, from the first on.
use Rattle.std.proofs.Common.{◌≡◌, ℕ, ◌+◌, ◌<◌, ◌≤◌, List, [], ◌∷◌, ◌++◌, ◌⊎◌, ◌↔◌, inl, inr, sym, ◌∙◌, ap, subst, length, take, get_or}
use Rattle.std.specs.Prelude.{Contains}
use Rattle.std.proofs.lemmas.List.{take_more, take_all}
use Rattle.std.proofs.lemmas.List.Elements.{Contains-append_left, Contains-push, Contains-push_cases}

module _ {S : Type 0} (IsSo : S → Type 0) (all : List S) (i : ℕ) where
  -- so of one element more
  pub each_next : (s : S) → i < length all → s ≡ get_or all i s →
      ((x : S) → Contains (take i all) x → IsSo x) → IsSo s →
      (x : S) → Contains (take (i + 1) all) x → IsSo x
  each_next s lt is before this x inside =
      let more : take (i + 1) all ≡ take i all ++ s ∷ [] = take_more all i s lt
      ∙ ap (λ y. take i all ++ y ∷ []) (sym is) in
      elim (Contains-push_cases (take i all) s x
      (subst (λ (l : List S). Contains l x) more inside)) [
        | inl earlier ↦ before x earlier
        | inr e ↦ subst IsSo e this
      ]

  -- so of all
  pub each_all : length all ≤ i → ((x : S) → Contains (take i all) x → IsSo x) →
      (x : S) → Contains all x → IsSo x
  each_all past before x inside =
      before x (subst (λ (l : List S). Contains l x) (sym (take_all i all past)) inside)

module _ {S : Type 0} (all : List S) (i : ℕ) where
  -- a list that has the elements so far has one more
  pub has_next : (s : S) → i < length all → s ≡ get_or all i s → (old new : List S) →
      ((x : S) → Contains old x ↔ Contains (take i all) x) →
      ((x : S) → Contains new x ↔ (Contains old x ⊎ (x ≡ s))) →
      (x : S) → Contains new x ↔ Contains (take (i + 1) all) x
  has_next s lt is old new before added x =
      let more : take (i + 1) all ≡ take i all ++ s ∷ [] = take_more all i s lt
      ∙ ap (λ y. take i all ++ y ∷ []) (sym is) in (
        λ h. subst (λ (l : List S). Contains l x) (sym more) (elim ((added x).0 h) [
          | inl o ↦ Contains-append_left (take i all) (s ∷ []) x ((before x).0 o)
          | inr e ↦ subst (Contains (take i all ++ s ∷ [])) (sym e) (Contains-push (take i all) s)
        ]),
        λ h. (added x).1 (elim (Contains-push_cases (take i all) s x
            (subst (λ (l : List S). Contains l x) more h)) [
              | inl o ↦ inl ((before x).1 o)
              | inr e ↦ inr (sym e)
            ]),
      )

  -- and has all of them
  pub has_all : length all ≤ i → (new : List S) →
      ((x : S) → Contains new x ↔ Contains (take i all) x) →
      (x : S) → Contains new x ↔ Contains all x
  has_all past new has x =
      subst (λ (l : List S). Contains new x ↔ Contains l x) (take_all i all past) (has x)
