-- Places gathered from lists of steps and places.
use Rattle.std.proofs.Common.{◌≡◌, ℕ, ◌≤◌, List, [], ◌∷◌, ◌++◌, ◌⊎◌, ◌↔◌, inl, inr, refl, sym, subst, length, take}
use Rattle.std.specs.Prelude.{Contains}
use Rattle.std.proofs.lemmas.List.Elements.{Contains-append_left, Contains-push, Contains-push_cases}
use Rattle.ux_subsets.proofs.CollectingLemmas.{IsCollected, collected_whole, collected_all}
use Rattle.ux_base.proofs.Lists.{nothing_in, first_or_later, contains_first}

-- all of a list was looked at
pub gathered_more : {S E : Type 0} (P : S → E → Type 0) (old now : List E) (all : List S)
    (i : ℕ) → length all ≤ i →
    IsCollected (λ j. (w : S) × Contains all w × P w j) P old now (take i all) →
    (j : E) → Contains now j ↔ (Contains old j ⊎ ((w : S) × Contains all w × P w j))
gathered_more {S} {E} P old now all i past c j =
    collected_all (λ j. (w : S) × Contains all w × P w j) P old now now all (λ (e : E). ⊥)
    (collected_whole _ _ old now all all i past refl c)
    (λ e t. inr t) (λ e h. absurd h)
    (λ e. (λ h. inl h, λ h. elim h [ inl x ↦ x | inr x ↦ absurd x ])) j

-- one more place, of which the fact tells
pub pushed : (T : Type 0) (P : ℕ → Type 0) (old new : List ℕ) (x : ℕ) → new ≡ old ++ x ∷ [] →
    T → ((k : ℕ) → P k ↔ (T × (k ≡ x))) → (k : ℕ) → Contains new k ↔ (Contains old k ⊎ P k)
pushed T P old new x is here tells k =
    subst (λ (xs : List ℕ). Contains xs k ↔ (Contains old k ⊎ P k)) (sym is) (
      λ h. elim (Contains-push_cases old x k h) [
        | inl o ↦ inl o
        | inr s ↦ inr ((tells k).1 (here, sym s))
      ],
      λ h. elim h [
        | inl o ↦ Contains-append_left old (x ∷ []) k o
        | inr p ↦ subst (λ (y : ℕ). Contains (old ++ x ∷ []) y) (sym ((tells k).0 p).1)
            (Contains-push old x)
      ],
    )

-- no more place, since the fact is none
pub unpushed : (T : Type 0) (P : ℕ → Type 0) (old : List ℕ) → (T → ⊥) →
    ((k : ℕ) → P k → T) → (k : ℕ) → Contains old k ↔ (Contains old k ⊎ P k)
unpushed T P old never tells k =
    (λ h. inl h, λ h. elim h [ inl o ↦ o | inr p ↦ absurd (never (tells k p)) ])

pub from_one : (P : ℕ → Type 0) → ((p : ℕ) × Contains (0 ∷ []) p × P p) → P 0
from_one P h = elim (first_or_later 0 [] h.0 h.1) [
  | inl e ↦ subst P (sym e) h.2
  | inr never ↦ absurd (nothing_in never)
]

pub at_one : (P : ℕ → Type 0) → P 0 → (p : ℕ) × Contains (0 ∷ []) p × P p
at_one P h = (0, contains_first 0 [], h)
