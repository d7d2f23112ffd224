-- Answers whose ends were looked at, one after another.
use Rattle.std.proofs.Common.{arith, ◌≡◌, ℕ, ◌+◌, ◌<◌, ◌≤◌, List, inl, inr, sym, ap, subst, ◌∙◌, length, get_or}
use Rattle.std.specs.Prelude.{Some, slice_get}
use Rattle.std.proofs.lemmas.Option.{same_Some, slice_get-get_or}
use Rattle.ux_base.proofs.Lists.{less_or}
use Rattle.ux_chart.specs.declared.table.Answer.{Answer}
use Rattle.ux_chart.specs.Tables.{cut, NoneFrom}

-- an answer of nothing
abbrev pub none : Answer
none = record {
  part = 0;
  ends = record { from = 0; to = 0 };
  closers = record { from = 0; to = 0 };
}

module _ (answers : List Answer) (positions : List ℕ) (at : ℕ) where
  -- the ends of the first answers don't begin by the position
  abbrev pub NoneBelow : (bound : ℕ) → Type 0
  NoneBelow bound = (n : ℕ) (answer : Answer) → n < bound → slice_get answers n ≡ Some answer →
      slice_get (cut positions answer.ends) 0 ≡ Some at → ⊥

  pub none_first : NoneBelow 0
  none_first n answer low = absurd (omega (arith, low))

  pub one_more : (i : ℕ) (d : Answer) (ends : List ℕ) → i < length answers →
      ends ≡ cut positions (get_or answers i d).ends → (slice_get ends 0 ≡ Some at → ⊥) →
      NoneBelow i → NoneBelow (i + 1)
  one_more i d ends inside cut_is never before n answer low found = elim (less_or n i) [
    | inl l ↦ before n answer l found
    | inr m ↦
        let e : n ≡ i = omega (arith, m, low) in
        let here = slice_get-get_or answers i d inside in
        let same = same_Some (get_or answers i d) answer
        (sym here ∙ (ap (λ k. slice_get answers k) (sym e) ∙ found)) in
        subst (λ (a : Answer). slice_get (cut positions a.ends) 0 ≡ Some at → ⊥) same
        (subst (λ (l : List ℕ). slice_get l 0 ≡ Some at → ⊥) cut_is never)
  ]

  pub none_all : (i : ℕ) → length answers ≤ i → NoneBelow i → NoneFrom answers positions at
  none_all i all before answer (n, inside, is) = before n answer (omega (arith, all, inside))
      (slice_get-get_or answers n answer inside ∙ ap Some is)
