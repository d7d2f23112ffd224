-- Numbers gathered from the elements of a list.
use Rattle.std.proofs.Common.{◌≡◌, ℕ, ◌≤◌, List, [], ◌++◌, ◌⊎◌, ◌↔◌, inl, inr, refl, sym, subst, length, take}
use Rattle.std.proofs.lemmas.List.Elements.{Contains-append_left, Contains-append_right, Contains-append_cases}
use Rattle.std.specs.Prelude.{Contains}
use Rattle.ux_subsets.proofs.CollectingLemmas.{IsCollected, collected_whole, collected_all}
use Rattle.ux_subsets.proofs.ElementsLemmas.{nothing_in}

-- all of a list was looked at
pub gathered : {S E : Type 0} (P : S → E → Type 0) (old now : List E) (all : List S) (i : ℕ) → old ≡ [] → length all ≤ i →
    IsCollected (λ j. (w : S) × Contains all w × P w j) P old now (take i all) →
    (j : E) → Contains now j ↔ ((w : S) × Contains all w × P w j)
gathered {S} {E} P old now all i none past c j =
    let whole = collected_all (λ j. (w : S) × Contains all w × P w j) P old now now all (λ (e : E). ⊥)
    (collected_whole _ _ old now all all i past refl c)
    (λ e t. inr t) (λ e h. absurd h) (λ e. (λ h. inl h, λ h. elim h [ inl x ↦ x | inr x ↦ absurd x ])) j in
    (λ h. elim (whole.0 h) [ inl n ↦ absurd (nothing_in (subst (λ (l : List E). Contains l j) none n)) | inr t ↦ t ], λ t. whole.1 (inr t))

-- one more number, of which the fact tells
pub one_more : (T : Type 0) (P : ℕ → Type 0) (old new : List ℕ) (number : ℕ) → ((e : ℕ) → Contains new e ↔ (Contains old e ⊎ (e ≡ number))) →
    T → ((e : ℕ) → P e ↔ (T × (e ≡ number))) → (e : ℕ) → Contains new e ↔ (Contains old e ⊎ P e)
one_more T P old new number told here is e = (
  λ h. elim ((told e).0 h) [ inl o ↦ inl o | inr m ↦ inr ((is e).1 (here, m)) ],
  λ h. elim h [ inl o ↦ (told e).1 (inl o) | inr p ↦ (told e).1 (inr ((is e).0 p).1) ],
)

-- the elements of a list after others were put behind it
pub appended : {A : Type 0} (old new more : List A) → new ≡ old ++ more → (x : A) → Contains new x ↔ (Contains old x ⊎ Contains more x)
appended {A} old new more is x = subst (λ (xs : List A). Contains xs x ↔ (Contains old x ⊎ Contains more x)) (sym is) (
  λ h. Contains-append_cases old more x h,
  λ h. elim h [ inl a ↦ Contains-append_left old more x a | inr b ↦ Contains-append_right old more x b ],
)
