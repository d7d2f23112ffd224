-- A word, cut at the first mark.
use Rattle.std.proofs.Common.{arith, ◌≡◌, ◌≢◌, refl, ap, ℕ, zero, suc, Bool, true, false, ◌==◌, ◌+◌, ◌||◌, List, [], ◌∷◌, ◌++◌, one-add, take, drop}
use Rattle.std.specs.List.{list_any, before_first, after_first, position_or_len}
use Rattle.std.proofs.lemmas.Bool.Decides.{nat_tests}
use Rattle.clap.proofs.CutLemmas.{Lacks}

pub take-first : (n x : ℕ) (xs : List ℕ) → take (1 + n) (x ∷ xs) ≡ x ∷ take n xs
take-first n x xs = ap (λ k. take k (x ∷ xs)) (one-add n)

pub drop-first : (n x : ℕ) (xs : List ℕ) → drop (1 + n + 1) (x ∷ xs) ≡ drop (n + 1) xs
drop-first n x xs =
    let one_less : 1 + n + 1 ≡ suc (n + 1) = omega arith in
    ap (λ k. drop k (x ∷ xs)) one_less

none_left : (a b : Bool) → (a || b) ≡ false → a ≡ false
none_left true b e = let wrong : true ≡ false = e in cc
none_left false b e = refl

none_right : (a b : Bool) → (a || b) ≡ false → b ≡ false
none_right true b e = let wrong : true ≡ false = e in cc
none_right false b e = e

module _ (mark : ℕ) where
  abbrev pub has : List ℕ → Bool
  has text = list_any (λ b. b == mark) text

  is_mark : (x : ℕ) → (x == mark) ≡ true → x ≡ mark
  is_mark x e = grind (arith, nat_tests)

  not_mark : (x : ℕ) → (x == mark) ≡ false → x ≢ mark
  not_mark x e = λ same. grind (arith, nat_tests)

  pub lacks : (text : List ℕ) → has text ≡ false → Lacks mark text
  lacks [] none i below = absurd (omega (arith, below))
  lacks (x ∷ xs) none zero below = not_mark x (none_left (x == mark) (has xs) none)
  lacks (x ∷ xs) none (suc i) below =
      lacks xs (none_right (x == mark) (has xs) none) i (omega (arith, below))

  -- what stands before and after the mark, put together again
  pub cut : (text : List ℕ) → has text ≡ true →
      text ≡ before_first (λ b. b == mark) text ++ mark ∷ after_first (λ b. b == mark) text
  cut [] some = let wrong : false ≡ true = some in cc
  cut (x ∷ xs) some = by_case (x == mark) refl (cut xs)
    where
      by_case : (b : Bool) → (x == mark) ≡ b → (has xs ≡ true → xs
          ≡ before_first (λ c. c == mark) xs ++ mark ∷ after_first (λ c. c == mark) xs) →
          x ∷ xs ≡ before_first (λ c. c == mark) (x ∷ xs)
          ++ mark ∷ after_first (λ c. c == mark) (x ∷ xs)
      by_case true e later = rw e (ap (λ y. y ∷ xs) (is_mark x e))
      by_case false e later = rw e (rw (
        take-first (position_or_len (λ c. c == mark) xs) x xs,
        drop-first (position_or_len (λ c. c == mark) xs) x xs,
      ) (ap (λ l. x ∷ l) (later (rw e at some))))
