-- A form has letters alone, or it hasn't.
use Rattle.std.proofs.Common.{arith, below_more, ◌≡◌, ◌⊎◌, ℕ, zero, suc, ◌≤◌, ◌<◌, Bool, true, false, List, [], ◌∷◌, refl, sym, subst, inl, inr}
use Rattle.std.specs.Prelude.{All, Any}
use Rattle.std.specs.Str.{chars}
use Rattle.std.proofs.lemmas.Bool.{cases_eq, cases_lt, true≢false}
use Rattle.std.proofs.lemmas.List.Elements.{All-nil, All-cons, All-head, All-tail}
use Rattle.ux_alphabet.specs.Letters.{Letters, NamesUpper, NamesLower, IsUpper, IsLower, IsLetter, never_letter}
use Rattle.ux_alphabet.specs.declared.line.Line.{Line}
use Rattle.ux_alphabet.specs.declared.line.Line.TheVariants.{Single, Pair, Range}
use Rattle.ux_dela.specs.declared.entry.Entry.{Entry}
use Rattle.ux_lexical_tables.specs.Tables.{IsSimpleForm}

-- it holds, or it doesn't
abbrev pub IsSettled : Type 0 → Type 0
IsSettled P = P ⊎ (P → ⊥)

settled_either : (P Q : Type 0) → IsSettled P → IsSettled Q → IsSettled (P ⊎ Q)
settled_either P Q (inl p) other = inl (inl p)
settled_either P Q (inr isnt) (inl q) = inl (inr q)
settled_either P Q (inr isnt) (inr neither) =
    inr (λ either. elim either [ inl p ↦ isnt p | inr q ↦ neither q ])

pub settled_both : (P Q : Type 0) → IsSettled P → IsSettled Q → IsSettled (P × Q)
settled_both P Q (inr isnt) other = inr (λ both. isnt both.0)
settled_both P Q (inl p) (inr isnt) = inr (λ both. isnt both.1)
settled_both P Q (inl p) (inl q) = inl (p, q)

module _ {X : Type 0} (P : X → Type 0) (settled : (x : X) → IsSettled (P x)) where
  -- of each element
  pub settled_all : (xs : List X) → IsSettled (All P xs)
  settled_all [] = inl (All-nil P)
  settled_all (x ∷ xs) = go (settled x) (settled_all xs)
    where
      go : IsSettled (P x) → IsSettled (All P xs) → IsSettled (All P (x ∷ xs))
      go (inr isnt) rest = inr (λ all. isnt (All-head P x xs all))
      go (inl p) (inr isnt) = inr (λ all. isnt (All-tail P x xs all))
      go (inl p) (inl rest) = inl (All-cons P x xs p rest)

  first_or_later : (x : X) (xs : List X) → Any P (x ∷ xs) → P x ⊎ Any P xs
  first_or_later x xs (zero, y, lt, is, p) = inl (subst P (sym is) p)
  first_or_later x xs (suc k, y, lt, is, p) = inr (k, y, omega (arith, lt), is, p)

  -- of some element
  pub settled_any : (xs : List X) → IsSettled (Any P xs)
  settled_any [] = inr (λ any. absurd (omega (arith, any.2)))
  settled_any (x ∷ xs) = go (settled x) (settled_any xs)
    where
      go : IsSettled (P x) → IsSettled (Any P xs) → IsSettled (Any P (x ∷ xs))
      go (inl p) rest = inl (0, x, omega arith, refl, p)
      go (inr isnt) (inl (k, y, lt, is, p)) = inl (suc k, y, omega (arith, lt), is, p)
      go (inr isnt) (inr none) =
          inr (λ any. elim (first_or_later x xs any) [ inl p ↦ isnt p | inr later ↦ none later ])

pub settled_le : (a b : ℕ) → IsSettled (a ≤ b)
settled_le a b = elim (cases_lt b a) [ inl lt ↦ inr (λ le. omega (arith, lt, le)) | inr le ↦ inl le ]

pub settled_implies : (P Q : Type 0) → IsSettled P → IsSettled Q → IsSettled (P → Q)
settled_implies P Q (inr isnt) other = inl (λ p. absurd (isnt p))
settled_implies P Q (inl p) (inl q) = inl (λ _. q)
settled_implies P Q (inl p) (inr isnt) = inr (λ means. isnt (means p))

-- of each number below another
pub settled_below : (P : ℕ → Type 0) → ((i : ℕ) → IsSettled (P i)) → (n : ℕ) →
    IsSettled ((i : ℕ) → i < n → P i)
settled_below P settled zero = inl (λ i lt. absurd (omega (arith, lt)))
settled_below P settled (suc n) = go (settled_below P settled n) (settled n)
  where
    go : IsSettled ((i : ℕ) → i < n → P i) → IsSettled (P n) → IsSettled ((i : ℕ) → i < suc n → P i)
    go (inr isnt) here = inr (λ all. isnt (λ i lt. all i (omega (arith, lt))))
    go (inl below) (inr isnt) = inr (λ all. isnt (all n (omega arith)))
    go (inl below) (inl here) =
        inl (λ i lt. below_more P n below here i (omega (arith, lt)))

settled_false : (b : Bool) → IsSettled (b ≡ false)
settled_false true = inr true≢false
settled_false false = inl refl

upper_settled : (c : ℕ) (line : Line) → IsSettled (NamesUpper line c)
upper_settled c (Single letter) = cases_eq c letter
upper_settled c (Pair upper lower) = cases_eq c upper
upper_settled c (Range first last) =
    settled_both (first ≤ c) (c ≤ last) (settled_le first c) (settled_le c last)

lower_settled : (c : ℕ) (line : Line) → IsSettled (NamesLower line c)
lower_settled c (Single letter) = cases_eq c letter
lower_settled c (Pair upper lower) = cases_eq c lower
lower_settled c (Range first last) =
    settled_both (first ≤ c) (c ≤ last) (settled_le first c) (settled_le c last)

letter_settled : (alphabet : Letters) (c : ℕ) → IsSettled (IsLetter alphabet c)
letter_settled alphabet c =
    let may = settled_false (never_letter c) in
    settled_either (IsUpper alphabet c) (IsLower alphabet c)
    (settled_both (never_letter c ≡ false) (Any (λ line. NamesUpper line c) alphabet.lines) may
    (settled_any (λ line. NamesUpper line c) (upper_settled c) alphabet.lines))
    (settled_both (never_letter c ≡ false) (Any (λ line. NamesLower line c) alphabet.lines) may
    (settled_any (λ line. NamesLower line c) (lower_settled c) alphabet.lines))

-- a form has letters alone, or it hasn't
pub simple_settled : (alphabet : Letters) (entry : Entry) → IsSettled (IsSimpleForm alphabet entry)
simple_settled alphabet entry =
    settled_all (IsLetter alphabet) (letter_settled alphabet) (chars entry.form)
