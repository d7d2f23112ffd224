-- A list that is put together in two ways: where it is cut later, more stands before the cut.
use Rattle.std.proofs.Common.{arith, ◌≡◌, ℕ, ◌-◌, ◌≤◌, List, [], ◌∷◌, ◌++◌, refl, sym, ap, ◌∙◌, take, drop, get_or, length, slice_range}
use Rattle.std.proofs.Math.Seq.{take-append_seam}
use Rattle.std.proofs.lemmas.List.{length-append}

module _ {A : Type 0} where
  -- the later cut has more before it
  pub split : (front rest other end : List A) → front ++ rest ≡ other ++ end →
      length front ≤ length other → (more : List A) × (other ≡ front ++ more) × (rest ≡ more ++ end)
  split [] rest other end same le = (other, refl, same)
  split (x ∷ front) rest [] end same le = absurd (omega (arith, le))
  split (x ∷ front) rest (y ∷ other) end same le =
      let h = split front rest other end (ap (drop 1) same) (omega (arith, le)) in
      let first : x ≡ y = ap (λ (l : List A). get_or l 0 x) same in
      (h.0, ap (λ (l : List A). y ∷ l) h.1 ∙ ap (λ (z : A). z ∷ (front ++ h.0)) (sym first), h.2)

  -- what is cut off by the length of the rest is the front
  pub slice-front : (whole front rest : List A) → whole ≡ front ++ rest →
      slice_range whole 0 (length whole - length rest) ≡ front
  slice-front whole front rest is =
      let len = length-append front rest in
      let long = ap length is in
      let at : length whole - length rest - 0 ≡ length front = omega (arith, len, long) in
      ap (λ (n : ℕ). take n whole) at ∙ ap (take (length front)) is ∙ take-append_seam front rest
