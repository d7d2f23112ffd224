-- Lists that rise: numbers, and answers by part.
use Rattle.std.proofs.Common.{arith, ◌≡◌, ℕ, ◌<◌, ◌≤◌, List, [], inl, inr, refl, sym, ap, ◌∙◌, length, get_or}
use Rattle.std.specs.Prelude.{Contains, Some, slice_get}
use Rattle.std.specs.List.Sorted.{IsStrictlyIncreasing, IsNonDecreasingBy}
use Rattle.std.proofs.lemmas.List.{get_or_default}
use Rattle.std.proofs.lemmas.Option.{same_Some, slice_get_within, slice_get-get_or}
use Rattle.std.proofs.lemmas.List.Kept.{AllPairs-from_increasing}
use Rattle.ux_base.proofs.Lists.{less_or}
use Rattle.ux_chart.specs.declared.table.Answer.{Answer}
use Rattle.ux_chart.specs.declared.table.Stretch.{Stretch}
use Rattle.ux_chart.specs.declared.table.Table.{Table}
use Rattle.ux_chart.specs.Tables.{cut, AscendByPart, HasAnswer, Tells, IsSorted}

-- a later number is larger
pub rises : (xs : List ℕ) → IsStrictlyIncreasing xs → (i j : ℕ) → i < j → j < length xs →
    get_or xs i 0 < get_or xs j 0
rises xs up i j lt inside = AllPairs-from_increasing xs up i j 0 lt inside

-- no number stands between those that were looked at and the next one
pub none_between : (xs : List ℕ) → IsStrictlyIncreasing xs → (n bound x : ℕ) →
    ((m : ℕ) → m < n → m < length xs → get_or xs m 0 < bound) → bound ≤ x →
    (n < length xs → x < get_or xs n 0) → Contains xs x → ⊥
none_between xs up n bound x before past next h =
    let here : get_or xs h.0 0 ≡ x = at_zero xs h.0 x h.1 h.2 in
    elim (less_or h.0 n) [
      | inl l ↦ let b = before h.0 l h.1 in absurd (omega (arith, here, b))
      | inr l ↦
          let i = h.1 in
          let above = next (omega arith) in
          elim (less_or n h.0) [
            | inl m ↦ let r = rises xs up n h.0 m h.1 in absurd (omega (arith, here, r, above))
            | inr m ↦
                let e : n ≡ h.0 = omega arith in
                let same = ap (λ k. get_or xs k 0) e in
                absurd (omega (arith, here, same, above))
          ]
    ]
  where
    at_zero : (xs : List ℕ) (i x : ℕ) → i < length xs → get_or xs i x ≡ x → get_or xs i 0 ≡ x
    at_zero xs i x inside is = sym (get_or_default xs i x 0 inside) ∙ is

-- one part has one answer
pub one_answer : (answers : List Answer) → AscendByPart answers → (x y : Answer) →
    Contains answers x → Contains answers y → x.part ≡ y.part → x ≡ y
one_answer answers up x y a b same = elim (less_or a.0 b.0) [
  | inl l ↦
      let r = up a.0 b.0 x l b.1 in
      let p = ap (λ (z : Answer). z.part) a.2 in
      let q = ap (λ (z : Answer). z.part) (get_or_default answers b.0 x y b.1 ∙ b.2) in
      absurd (omega (arith, r, p, q, same))
  | inr m ↦ elim (less_or b.0 a.0) [
    | inl l ↦
        let r = up b.0 a.0 x l a.1 in
        let p = ap (λ (z : Answer). z.part) a.2 in
        let q = ap (λ (z : Answer). z.part) (get_or_default answers b.0 x y b.1 ∙ b.2) in
        absurd (omega (arith, r, p, q, same))
    | inr n ↦
        let e : a.0 ≡ b.0 = omega arith in
        sym a.2 ∙ (ap (λ k. get_or answers k x) e ∙ (get_or_default answers b.0 x y b.1 ∙ b.2))
  ]
]

-- the numbers of the parts don't fall
pub never_falls : (answers : List Answer) → AscendByPart answers →
    IsNonDecreasingBy (λ (x : Answer). x.part) answers
never_falls answers up i j d le inside = elim (less_or i j) [
  | inl l ↦ let r = up i j d l inside in omega arith
  | inr m ↦
      let e : i ≡ j = omega arith in
      let same = ap (λ k. (get_or answers k d).part) e in
      omega (arith, same)
]

-- where the first answer that is not before a part is of another one, none is of this part
pub none_else : (answers : List Answer) → AscendByPart answers → (place part : ℕ) (here : Answer) →
    slice_get answers place ≡ Some here → (here.part ≡ part → ⊥) →
    ((k : ℕ) (d : Answer) → k < place → (get_or answers k d).part < part) →
    ((k : ℕ) (d : Answer) → place ≤ k → k < length answers →
    part ≤ (get_or answers k d).part) →
    (answer : Answer) → Contains answers answer → answer.part ≡ part → ⊥
none_else answers up place part here found other before after answer h same =
    let inside = slice_get_within answers place here found in
    let at_place : get_or answers place answer ≡ here =
    same_Some (get_or answers place answer) here
    (sym (slice_get-get_or answers place answer inside) ∙ found) in
    let is = ap (λ (z : Answer). z.part) h.2 in
    elim (less_or h.0 place) [
      | inl l ↦ let b = before h.0 answer l in absurd (omega (arith, b, is, same))
      | inr l ↦ elim (less_or place h.0) [
        | inl m ↦
            let r = up place h.0 answer m h.1 in
            let a = after place answer (omega arith) inside in
            absurd (omega (arith, r, a, is, same))
        | inr m ↦
            let e : h.0 ≡ place = omega arith in
            let moved = ap (λ k. get_or answers k answer) e in
            other (ap (λ (z : Answer). z.part) (sym at_place ∙ (sym moved ∙ h.2)) ∙ same)
      ]
    ]

-- what a row tells of a part by its answer
pub tells_one : (table : Table) (row : Stretch) (part : ℕ) (answer : Answer) (js cs : List ℕ) →
    IsSorted table row → HasAnswer table row part answer →
    js ≡ cut table.ends.items answer.ends → cs ≡ cut table.closers.items answer.closers →
    Tells table row part js cs
tells_one table row part answer js cs sorted has is_js is_cs = record {
  told_ends = λ other h.
      is_js ∙ ap (λ (x : Answer). cut table.ends.items x.ends) (one other h);
  told_closers = λ other h.
      is_cs ∙ ap (λ (x : Answer). cut table.closers.items x.closers) (one other h);
  no_ends = λ none. absurd (none answer has);
  no_closers = λ none. absurd (none answer has);
}
  where
    one : (other : Answer) → HasAnswer table row part other → answer ≡ other
    one other h = one_answer (cut table.answers.items row) sorted.ascends answer other has.inside
        h.inside (has.part_is ∙ sym h.part_is)

-- and where it has none
pub tells_none : (table : Table) (row : Stretch) (part : ℕ) →
    ((answer : Answer) → Contains (cut table.answers.items row) answer → answer.part ≡ part → ⊥) →
    Tells table row part [] []
tells_none table row part none = record {
  told_ends = λ answer h. absurd (none answer h.inside h.part_is);
  told_closers = λ answer h. absurd (none answer h.inside h.part_is);
  no_ends = λ n. refl;
  no_closers = λ n. refl;
}
