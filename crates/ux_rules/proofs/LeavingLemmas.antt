-- Rows that get the numbers of the steps that leave their places.
use Rattle.std.proofs.Common.{arith, ◌≡◌, ◌≢◌, ℕ, zero, suc, ◌+◌, ◌<◌, List, [], ◌∷◌, ◌++◌, refl, sym, ◌∙◌, ap, subst, ◌⊎◌, inl, inr, length, get_or, set, take, Some}
use Rattle.std.specs.Prelude.{Contains, slice_get}
use Rattle.std.proofs.lemmas.List.{length-take-le, get_or-set_same, get_or-set_other}
use Rattle.std.proofs.lemmas.List.Elements.{Contains-append_left, Contains-push, Contains-push_cases}
use Rattle.std.proofs.lemmas.Option.{same_Some}
use Rattle.ux_base.proofs.Lists.{nothing_in, same_or, take_more}
use Rattle.ux_rules.specs.declared.step.Step.{Step}
use Rattle.ux_rules.specs.Rules.{IsLeaving, AreLeaving}

-- what a list with one more has
get_push : {A : Type 0} (xs : List A) (x y : A) (k : ℕ) → slice_get (xs ++ x ∷ []) k ≡ Some y →
    (slice_get xs k ≡ Some y) ⊎ ((k ≡ length xs) × (x ≡ y))
get_push [] x y zero e = inr (refl, same_Some x y e)
get_push [] x y (suc k) e = inl e
get_push (z ∷ xs) x y zero e = inl e
get_push (z ∷ xs) x y (suc k) e = elim (get_push xs x y k e) [
  | inl old ↦ inl old
  | inr new ↦ inr (ap suc new.0, new.1)
]

get_old : {A : Type 0} (xs : List A) (x y : A) (k : ℕ) → slice_get xs k ≡ Some y →
    slice_get (xs ++ x ∷ []) k ≡ Some y
get_old [] x y k e = cc
get_old (z ∷ xs) x y zero e = e
get_old (z ∷ xs) x y (suc k) e = get_old xs x y k e

get_new : {A : Type 0} (xs : List A) (x : A) → slice_get (xs ++ x ∷ []) (length xs) ≡ Some x
get_new [] x = refl
get_new (z ∷ xs) x = get_new xs x

abbrev pub with_number : List (List ℕ) → (place number : ℕ) → List (List ℕ)
with_number rows place number = set rows place (get_or rows place [] ++ number ∷ [])

pub leaving_none : (rows : List (List ℕ)) → ((k : ℕ) → get_or rows k [] ≡ []) → AreLeaving [] rows
leaving_none rows none place k = (
  λ h. absurd (nothing_in (subst (λ (ns : List ℕ). Contains ns k) (none place) h)),
  λ h. cc h.1,
)

module _ (steps : List Step) (rows : List (List ℕ)) (s : Step) (inside : s.from < length rows)
    (are : AreLeaving steps rows) where
  at_place : IsLeaving (steps ++ s ∷ []) s.from (get_or rows s.from [] ++ length steps ∷ [])
  at_place k = (
    λ h. elim (Contains-push_cases (get_or rows s.from []) (length steps) k h) [
      | inl old ↦ let was = (are s.from k).0 old in (was.0, get_old steps s was.0 k was.1, was.2)
      | inr e ↦ (s, subst (λ n. slice_get (steps ++ s ∷ []) n ≡ Some s) e (get_new steps s), refl)
    ],
    λ h. elim (get_push steps s h.0 k h.1) [
      | inl old ↦ Contains-append_left (get_or rows s.from []) (length steps ∷ []) k
          ((are s.from k).1 (h.0, old, h.2))
      | inr new ↦ subst (λ n. Contains (get_or rows s.from [] ++ length steps ∷ []) n)
          (sym new.0) (Contains-push (get_or rows s.from []) (length steps))
    ],
  )

  at_other : (place : ℕ) → place ≢ s.from → IsLeaving (steps ++ s ∷ []) place (get_or rows place [])
  at_other place other k = (
    λ h. let was = (are place k).0 h in (was.0, get_old steps s was.0 k was.1, was.2),
    λ h. elim (get_push steps s h.0 k h.1) [
      | inl old ↦ (are place k).1 (h.0, old, h.2)
      | inr new ↦ absurd (other (sym h.2 ∙ sym (ap (λ (x : Step). x.from) new.1)))
    ],
  )

  -- one more step
  pub leaving_more : AreLeaving (steps ++ s ∷ []) (with_number rows s.from (length steps))
  leaving_more place = elim (same_or place s.from) [
    | inl e ↦ subst (λ p. IsLeaving (steps ++ s ∷ []) p
        (get_or (with_number rows s.from (length steps)) p [])) (sym e)
        (subst (λ (ns : List ℕ). IsLeaving (steps ++ s ∷ []) s.from ns)
        (sym (get_or-set_same rows s.from _ [] inside)) at_place)
    | inr n ↦ subst (λ (ns : List ℕ). IsLeaving (steps ++ s ∷ []) place ns)
        (sym (get_or-set_other rows s.from place _ [] n)) (at_other place n)
  ]

-- the number of one more step was put
pub leaving_next : (steps : List Step) (n : ℕ) (s : Step) (old new : List (List ℕ)) →
    n < length steps → s ≡ get_or steps n s → s.from < length old →
    new ≡ with_number old s.from n → AreLeaving (take n steps) old →
    AreLeaving (take (n + 1) steps) new
leaving_next steps n s old new inside is below put are =
    let front : take (n + 1) steps ≡ take n steps ++ s ∷ [] =
    take_more steps n s inside ∙ ap (λ (x : Step). take n steps ++ x ∷ []) (sym is) in
    let len : length (take n steps) ≡ n = length-take-le n steps (omega (arith, inside)) in
    subst (λ (ss : List Step). AreLeaving ss new) (sym front)
    (subst (λ (rows : List (List ℕ)). AreLeaving (take n steps ++ s ∷ []) rows) (sym put)
    (subst (λ (k : ℕ). AreLeaving (take n steps ++ s ∷ []) (with_number old s.from k)) len
    (leaving_more (take n steps) old s below are)))
