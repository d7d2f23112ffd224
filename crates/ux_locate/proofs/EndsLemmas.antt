-- Of ends in order the policy keeps the last or the first.
use Rattle.std.proofs.Common.{arith, ◌≡◌, ℕ, ◌∙◌, ◌+◌, ◌-◌, ◌<◌, ◌≤◌, List, [], ◌∷◌, ap, drop, get_or, length, subst, sym, take, inl, inr}
use Rattle.std.specs.Prelude.{Contains}
use Rattle.std.specs.List.Sorted.{IsStrictlyIncreasing}
use Rattle.std.proofs.lemmas.Bool.Decides.{leb_tells}
use Rattle.std.proofs.Math.ListN.{drop_of_length-le}
use Rattle.std.proofs.Math.Seq.{drop-nil, take-nil}
use Rattle.std.proofs.lemmas.List.{drop_more, get_or_default, nil_from_length, take_more}
use Rattle.std.proofs.lemmas.List.Elements.{Contains-get_or, Contains-push, Contains-push_cases}
use Rattle.std.proofs.lemmas.Map.Keys.{below_from_sorted, sorted_from_strictly_increasing}
use Rattle.ux_base.specs.declared.settings.Policy.{Policy}
use Rattle.ux_base.specs.declared.settings.Policy.TheVariants.{Shortest, Longest}
use Rattle.ux_locate.specs.Keeping.{AreBest, IsAsGood}
use Rattle.ux_locate.proofs.BestLemmas.{best_none}

-- an end itself
abbrev itself : ℕ → ℕ
itself end = end

-- one end alone, where it is as good as all and no other is
best_alone : (policy : Policy) (ends : List ℕ) (end : ℕ) → Contains ends end →
    ((x : ℕ) → Contains ends x → IsAsGood policy end x) →
    ((x : ℕ) → Contains ends x → IsAsGood policy x end → end ≡ x) →
    AreBest policy itself (Contains ends) (end ∷ [])
best_alone policy ends end inside good only = record {
  exactly = λ x. (
    λ c. elim (Contains-push_cases [] end x c) [
      | inl none ↦ absurd (omega (arith, none.1))
      | inr same ↦
          subst (λ (e : ℕ). Contains ends e
          × ((other : ℕ) → Contains ends other → IsAsGood policy e other)) same (inside, good)
    ],
    λ f. subst (Contains (end ∷ [])) (only x f.0 (f.1 end inside)) (Contains-push [] end),
  );
  some = λ x c. (end, Contains-push [] end);
}

no_end : (x : ℕ) → let none : List ℕ = [] in Contains none x → ⊥
no_end x c = absurd (omega (arith, c.1))

module _ (ends : List ℕ) (increasing : IsStrictlyIncreasing ends) where
  below : (i j : ℕ) → i < j → j < length ends → get_or ends i 0 < get_or ends j 0
  below i j lt within =
      below_from_sorted ends i j 0 (sorted_from_strictly_increasing ends increasing) lt within

  -- each end is that of a place
  pub at : (x : ℕ) (c : Contains ends x) → get_or ends c.0 0 ≡ x
  at x (i, lt, is) = get_or_default ends i 0 x lt ∙ is

  -- of two ends in order the one that stands first is no later
  pub no_later : (i j : ℕ) → i ≤ j → j < length ends → get_or ends i 0 ≤ get_or ends j 0
  no_later i j le within = elim (leb_tells j i) [
    | inl same ↦
        let e : i ≡ j = omega (arith, le, same.1) in
        subst (λ (n : ℕ). get_or ends i 0 ≤ get_or ends n 0) e (omega arith)
    | inr lt ↦
        let b = below i j lt.1 within in
        omega (arith, b)
  ]

  pub best_last : 0 < length ends → AreBest Longest itself (Contains ends)
      (get_or ends (length ends - 1) 0 ∷ [])
  best_last some =
      let place : length ends - 1 < length ends = omega (arith, some) in
      let top = get_or ends (length ends - 1) 0 in
      let most : (x : ℕ) → Contains ends x → x ≤ top =
      λ x c.
      let le = no_later c.0 (length ends - 1) (omega (arith, c.1)) place in
      subst (λ (n : ℕ). n ≤ top) (at x c) le in
      best_alone Longest ends top (Contains-get_or ends (length ends - 1) 0 place) most
      (λ x c good. let le = most x c in omega (arith, le, good))

  pub best_first : 0 < length ends →
      AreBest Shortest itself (Contains ends) (get_or ends 0 0 ∷ [])
  best_first some =
      let low = get_or ends 0 0 in
      let least : (x : ℕ) → Contains ends x → low ≤ x =
      λ x c.
      let le = no_later 0 c.0 (omega arith) c.1 in
      subst (λ (n : ℕ). low ≤ n) (at x c) le in
      best_alone Shortest ends low (Contains-get_or ends 0 0 some) least
      (λ x c good. let le = least x c in omega (arith, le, good))

  none_of : length ends ≤ 0 → ends ≡ []
  none_of few = nil_from_length ends (omega (arith, few))

  best_of_none : (policy : Policy) → length ends ≤ 0 → (part : List ℕ) → part ≡ [] →
      AreBest policy itself (Contains ends) part
  best_of_none policy few part is =
      subst (AreBest policy itself (Contains ends)) (sym is)
      (best_none policy itself (Contains ends) (λ x c. omega (arith, few, c.1)))

  -- the list of the last end alone
  pub last_part : (from : ℕ) → from ≡ length ends - 1 → AreBest Longest itself (Contains ends)
      (take (length ends - from) (drop from ends))
  last_part from is = elim (leb_tells (length ends) 0) [
    | inl none ↦ best_of_none Longest none.1 (take (length ends - from) (drop from ends))
        (ap (λ (l : List ℕ). take (length ends - from) (drop from l)) (none_of none.1)
        ∙ (ap (λ (l : List ℕ). take (length ends - from) l) (drop-nil from)
        ∙ take-nil (length ends - from)))
    | inr some ↦
        let rest : drop (from + 1) ends ≡ [] =
        drop_of_length-le ends (omega (arith, is, some.1)) in
        let count : length ends - from ≡ 1 = omega (arith, is, some.1) in
        let one : take (length ends - from) (drop from ends) ≡ get_or ends from 0 ∷ [] =
        ap (λ n. take n (drop from ends)) count
        ∙ ap (λ (l : List ℕ). take 1 l)
        (drop_more ends from 0 (omega (arith, is, some.1))
        ∙ ap (λ (l : List ℕ). get_or ends from 0 ∷ l) rest) in
        subst (AreBest Longest itself (Contains ends))
        (ap (λ n. get_or ends n 0 ∷ []) (sym is) ∙ sym one) (best_last some.1)
  ]

  -- the list of the first end alone
  pub first_part : (count : ℕ) → (0 < length ends → count ≡ 1) →
      AreBest Shortest itself (Contains ends) (take count ends)
  first_part count is = elim (leb_tells (length ends) 0) [
    | inl none ↦ best_of_none Shortest none.1 (take count ends)
        (ap (λ (l : List ℕ). take count l) (none_of none.1) ∙ take-nil count)
    | inr some ↦ subst (AreBest Shortest itself (Contains ends))
        (sym (ap (λ n. take n ends) (is some.1) ∙ take_more ends 0 0 some.1)) (best_first some.1)
  ]
