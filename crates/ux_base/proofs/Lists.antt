-- What lists contain, and two numbers compared.
use Rattle.std.proofs.Common.{arith, ◌≡◌, ◌≢◌, ℕ, zero, suc, ◌+◌, ◌-◌, ◌<◌, ◌≤◌, List, [], ◌∷◌, ◌++◌, refl, ap, ◌∙◌, ◌⊎◌, inl, inr, length, get_or, drop, take, append-nil}
use Rattle.std.specs.Prelude.{Contains}
use Rattle.std.proofs.lemmas.List.Elements.{Contains-append_left, Contains-append_right, Contains-append_cases, Contains-push, Contains-push_cases}

pub nothing_in : {A : Type 0} {x : A} → Contains [] x → ⊥
nothing_in h = absurd (omega (arith, h.1))

pub first_or_later : {A : Type 0} (x : A) (xs : List A) (y : A) → Contains (x ∷ xs) y →
    (x ≡ y) ⊎ Contains xs y
first_or_later x xs y h = elim (Contains-append_cases (x ∷ []) xs y h) [
  | inl a ↦ elim (Contains-push_cases [] x y a) [ inl b ↦ absurd (nothing_in b) | inr e ↦ inl e ]
  | inr b ↦ inr b
]

pub contains_first : {A : Type 0} (x : A) (xs : List A) → Contains (x ∷ xs) x
contains_first x xs = Contains-append_left (x ∷ []) xs x (Contains-push [] x)

pub contains_later : {A : Type 0} (x : A) (xs : List A) (y : A) → Contains xs y →
    Contains (x ∷ xs) y
contains_later x xs y h = Contains-append_right (x ∷ []) xs y h

pub same_or : (a b : ℕ) → (a ≡ b) ⊎ (a ≢ b)
same_or zero zero = inl refl
same_or (suc a) zero = inr (λ e. absurd (omega arith))
same_or zero (suc b) = inr (λ e. absurd (omega arith))
same_or (suc a) (suc b) = elim (same_or a b) [
  | inl e ↦ inl (omega arith)
  | inr n ↦ inr (λ e. n (omega arith))
]

pub less_or : (a b : ℕ) → (a < b) ⊎ (b ≤ a)
less_or zero zero = inr (omega arith)
less_or zero (suc b) = inl (omega arith)
less_or (suc a) zero = inr (omega arith)
less_or (suc a) (suc b) = elim (less_or a b) [
  | inl h ↦ inl (omega arith)
  | inr h ↦ inr (omega arith)
]

pub drop_whole : {A : Type 0} (xs : List A) (k : ℕ) → length xs ≤ k → drop k xs ≡ []
drop_whole [] zero h = refl
drop_whole [] (suc k) h = refl
drop_whole (x ∷ xs) zero h = absurd (omega arith)
drop_whole (x ∷ xs) (suc k) h = drop_whole xs k (omega arith)

-- one more of the first elements
pub take_more : {A : Type 0} (xs : List A) (i : ℕ) (d : A) → i < length xs →
    take (i + 1) xs ≡ take i xs ++ get_or xs i d ∷ []
take_more [] i d h = absurd (omega arith)
take_more (x ∷ xs) zero d h = refl
take_more (x ∷ xs) (suc i) d h =
    let n : suc i + 1 ≡ suc (i + 1) = omega arith in
    rw n (ap (λ ys. x ∷ ys) (take_more xs i d (omega arith)))

-- a list from which nothing could be popped
pub emptied : {A : Type 0} (work now : List A) (n : ℕ) → work ≡ now ++ [] →
    now ≡ take (n - 1) work → n ≡ 0 → work ≡ []
emptied work now n is rest none =
    let z : n - 1 ≡ 0 = omega arith in
    is ∙ (append-nil now ∙ (rest ∙ ap (λ k. take k work) z))

pub take_whole : {A : Type 0} (xs : List A) (k : ℕ) → length xs ≤ k → take k xs ≡ xs
take_whole [] zero h = refl
take_whole [] (suc k) h = refl
take_whole (x ∷ xs) zero h = absurd (omega arith)
take_whole (x ∷ xs) (suc k) h = ap (λ ys. x ∷ ys) (take_whole xs k (omega arith))
