-- A number above all others of a list is put last.
use Rattle.std.proofs.Common.{arith, ◌≡◌, ℕ, zero, suc, ◌+◌, ◌<◌, List, [], ◌∷◌, ◌++◌}
use Rattle.std.specs.Prelude.{Contains}
use Rattle.std.specs.List.Sorted.{IsStrictlyIncreasing}
use Rattle.ux_walker.proofs.AgendaLemmas.{contains_first, contains_later}

pub push_ascends : (xs : List ℕ) (y : ℕ) → IsStrictlyIncreasing xs →
    ((x : ℕ) → Contains xs x → x < y) → IsStrictlyIncreasing (xs ++ y ∷ [])
push_ascends [] y up below k lt = absurd (omega (arith, lt))
push_ascends (x ∷ []) y up below zero lt = below x (contains_first x [])
push_ascends (x ∷ []) y up below (suc k) lt = absurd (omega (arith, lt))
push_ascends (x ∷ next ∷ xs) y up below zero lt = up 0 (omega arith)
push_ascends (x ∷ next ∷ xs) y up below (suc k) lt =
    let goes : suc k + 1 ≡ suc (k + 1) = omega arith in
    rw goes (push_ascends (next ∷ xs) y (λ m low.
    let on : suc m + 1 ≡ suc (m + 1) = omega arith in
    rw on at (up (suc m) (omega (arith, low))))
    (λ z h. below z (contains_later x (next ∷ xs) z h)) k (omega (arith, lt)))
