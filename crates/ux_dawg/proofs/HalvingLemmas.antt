-- Edges ascend by their letters, and so a search by halves finds the one of a letter.
use Rattle.std.proofs.Common.{arith, ◌≡◌, ℕ, zero, suc, ◌<◌, ◌≤◌, ◌↔◌, ◌∙◌, List, [], ◌∷◌, inl, inr, sym, ap, subst, length, get_or, Result, Ok, Err}
use Rattle.std.specs.Prelude.{Contains, Some, None, MatchResult}
use Rattle.std.specs.List.Sorted.{IsSearchInRange, IsBinarySearchResult, IsNonDecreasingBy}
use Rattle.std.specs.Ordering.{nat_cmp, ordering_index}
use Rattle.std.proofs.lemmas.Bool.{cases_lt}
use Rattle.std.proofs.lemmas.Bool.Decides.{nat_tests}
use Rattle.std.proofs.lemmas.Cmp.{ranked}
use Rattle.std.proofs.lemmas.List.{get_or_default}
use Rattle.std.proofs.lemmas.List.Sorted.{IsNonDecreasingBy-from_default}
use Rattle.std.proofs.lemmas.Option.{none-some, same_Some}
use Rattle.ux_dawg.specs.declared.state.Edge.{Edge}
use Rattle.ux_dawg.specs.Paths.{edge, AreAscending}

-- what is read behind the edges
abbrev pub no_edge : Edge
no_edge = edge 0 0

-- the edge at a place is one of them
pub contains_at : (edges : List Edge) (k : ℕ) → k < length edges →
    Contains edges (get_or edges k no_edge)
contains_at edges k within =
    (k, within, get_or_default edges k (get_or edges k no_edge) no_edge within)

-- letters ascend from place to place
pub ascend_at : (edges : List Edge) → AreAscending edges → (i j : ℕ) → i < j → j < length edges →
    (get_or edges i no_edge).letter < (get_or edges j no_edge).letter
ascend_at [] up i j less within = absurd (omega (arith, within))
ascend_at (e ∷ edges) up zero zero less within = absurd (omega (arith, less))
ascend_at (e ∷ edges) up zero (suc j) less within =
    up.0 (get_or edges j no_edge) (contains_at edges j (omega (arith, within)))
ascend_at (e ∷ edges) up (suc i) zero less within = absurd (omega (arith, less))
ascend_at (e ∷ edges) up (suc i) (suc j) less within =
    ascend_at edges up.1 i j (omega (arith, less)) (omega (arith, within))

module _ (edges : List Edge) (up : AreAscending edges) (letter : ℕ) where
  rise : (i j : ℕ) → i ≤ j → j < length edges →
      (get_or edges i no_edge).letter ≤ (get_or edges j no_edge).letter
  rise i j low within = elim (cases_lt i j) [
    | inl less ↦ let lt = ascend_at edges up i j less within in omega (arith, lt)
    | inr past ↦
        let same : i ≡ j = omega (arith, low, past) in
        let e = ap (λ k. (get_or edges k no_edge).letter) same in
        omega (arith, e)
  ]

  -- the comparisons with the letter rise along the edges, as a search by halves asks
  comparisons_rise :
      IsNonDecreasingBy (λ (e : Edge). ordering_index (nat_cmp e.letter letter)) edges
  comparisons_rise = IsNonDecreasingBy-from_default
      (λ (e : Edge). ordering_index (nat_cmp e.letter letter)) edges no_edge
      (λ i j low within. let letters_rise = rise i j low within in grind (arith, nat_tests))

  -- an edge of the letter stands at one place
  one_place : (at : ℕ) → at < length edges → (get_or edges at no_edge).letter ≡ letter → (k : ℕ) →
      k < length edges → (get_or edges k no_edge).letter ≡ letter → k ≡ at
  one_place at within here k inside there = elim (cases_lt k at) [
    | inl below ↦
        let lt = ascend_at edges up k at below within in absurd (omega (arith, lt, here, there))
    | inr not_below ↦ elim (cases_lt at k) [
      | inl above ↦
          let lt = ascend_at edges up at k above inside in absurd (omega (arith, lt, here, there))
      | inr not_above ↦ omega (arith, not_below, not_above)
    ]
  ]

  -- the edge that is contained, where it stands
  stands : (target : ℕ) → Contains edges (edge letter target) →
      (k : ℕ) × (k < length edges) × (get_or edges k no_edge ≡ edge letter target)
  stands target has =
      (has.0, has.1, get_or_default edges has.0 no_edge (edge letter target) has.1 ∙ has.2)

  -- such a search finds the edge of the letter
  pub searched : (r : Result ℕ ℕ) → IsSearchInRange r (length edges) →
      IsBinarySearchResult (λ (e : Edge). nat_cmp e.letter letter) edges r → (t : ℕ) →
      MatchResult r
      (λ at. (Some (get_or edges at no_edge).target ≡ Some t) ↔ Contains edges (edge letter t))
      (λ at. (None ≡ Some t) ↔ Contains edges (edge letter t))
  searched (Ok at) within equal t =
      let here : (get_or edges at no_edge).letter ≡ letter = ranked _ letter _ (sym (equal no_edge)) in (
        λ is.
            let target = same_Some (get_or edges at no_edge).target t is in
            subst (λ (e : Edge). Contains edges e)
            (let same : get_or edges at no_edge ≡ edge letter t =
            λ j. record { letter = here j; target = target j } in same)
            (contains_at edges at within),
        λ has.
            let found = stands t has in
            let there = ap (λ (e : Edge). e.letter) found.2 in
            let same = one_place at within here found.0 found.1 there in
            ap Some (ap (λ k. (get_or edges k no_edge).target) (sym same)
            ∙ ap (λ (e : Edge). e.target) found.2),
      )
  searched (Err at) within parted t = (
    λ is. absurd (none-some t is),
    λ has.
        let found = stands t has in
        let there = ap (λ (e : Edge). e.letter) found.2 in
        let k = found.0 in
        absurd (elim (cases_lt k at) [
          | inl before ↦
              let less : (get_or edges k no_edge).letter < letter =
              ranked _ letter _ (sym ((parted comparisons_rise).0 k no_edge (omega arith) before)) in
              omega (arith, less, there)
          | inr behind ↦
              let more : letter < (get_or edges k no_edge).letter =
              ranked _ letter _ (sym ((parted comparisons_rise).1 k no_edge behind found.1)) in
              omega (arith, more, there)
        ]),
  )
