-- The forms of a word, as both readings tell them apart.
use Rattle.std.proofs.Common.{◌≡◌, refl, subst, arith, ℕ, Bool, true, false, ◌==◌, List, [], ◌∷◌}
use Rattle.std.proofs.lemmas.Bool.Decides.{nat_tests}

pub data Form : List ℕ → Type 0 where
  empty : Form []
  hyphen : Form (45 ∷ [])
  end : Form (45 ∷ 45 ∷ [])
  long : (x : ℕ) (xs : List ℕ) → Form (45 ∷ 45 ∷ x ∷ xs)
  short : (x : ℕ) (xs : List ℕ) → (x == 45) ≡ false → Form (45 ∷ x ∷ xs)
  other : (x : ℕ) (xs : List ℕ) → (x == 45) ≡ false → Form (x ∷ xs)

is_hyphen : (x : ℕ) → (x == 45) ≡ true → 45 ≡ x
is_hyphen x e = grind (arith, nat_tests)

behind_two : (rest : List ℕ) → Form (45 ∷ 45 ∷ rest)
behind_two [] = end
behind_two (x ∷ xs) = long x xs

behind_one : (rest : List ℕ) → Form (45 ∷ rest)
behind_one [] = hyphen
behind_one (x ∷ xs) = by_case (x == 45) refl
  where
    by_case : (b : Bool) → (x == 45) ≡ b → Form (45 ∷ x ∷ xs)
    by_case true e = subst (λ y. Form (45 ∷ y ∷ xs)) (is_hyphen x e) (behind_two xs)
    by_case false e = short x xs e

pub form_of : (text : List ℕ) → Form text
form_of [] = empty
form_of (x ∷ xs) = by_case (x == 45) refl
  where
    by_case : (b : Bool) → (x == 45) ≡ b → Form (x ∷ xs)
    by_case true e = subst (λ y. Form (y ∷ xs)) (is_hyphen x e) (behind_one xs)
    by_case false e = other x xs e
