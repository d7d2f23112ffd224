-- Words in the order of numbers and in that of letters: where one is left of another, and where it
-- is longer.
use Rattle.std.proofs.Common.{arith, ◌≡◌, ℕ, ◌<◌, List, [], ◌∷◌, ◌++◌, ◌⊎◌, inl, inr, refl, sym, ◌∙◌, ap, length, length-append}
use Rattle.std.specs.Cmp.Lexicographic.{slice_cmp, nat_list_cmp_total}
use Rattle.std.specs.Ordering.{nat_cmp, ordering_then}
use Rattle.std.specs.declared.cmp.Ordering.TheVariants.{Less, Equal, Greater}
use Rattle.std.specs.Cmp.{nat_cmp_is}
use Rattle.std.proofs.lemmas.Bool.{cases_eq, cases_lt}
use Rattle.std.proofs.lemmas.Cmp.{tied_itself}
use Rattle.ux_dawg.specs.Order.{ComesBefore}
use Rattle.ux_dawg.proofs.FormsLemmas.{lower_before, slice_cmp-cons}

-- a lower letter stands where the words differ
abbrev pub IsLeft : List ℕ → List ℕ → Type 0
IsLeft [] v = ⊥
IsLeft (a ∷ u) [] = ⊥
IsLeft (a ∷ u) (b ∷ v) = (a < b) ⊎ ((a ≡ b) × IsLeft u v)

-- the word begins with another one, and has more letters
abbrev pub IsLonger : List ℕ → List ℕ → Type 0
IsLonger x u = (c : ℕ) × (w : List ℕ) × (x ≡ u ++ c ∷ w)

-- and the next of them is this one
abbrev pub GoesOnBy : List ℕ → List ℕ → ℕ → Type 0
GoesOnBy x u c = (w : List ℕ) × (x ≡ u ++ c ∷ w)

pub not_left_of_itself : (u : List ℕ) → IsLeft u u → ⊥
not_left_of_itself [] h = h
not_left_of_itself (a ∷ u) (inl less) = omega (arith, less)
not_left_of_itself (a ∷ u) (inr more) = not_left_of_itself u more.1

pub not_longer : (u : List ℕ) (c : ℕ) (w : List ℕ) → u ≡ u ++ c ∷ w → ⊥
not_longer u c w same =
    let long = ap (length {A = ℕ}) same in
    let parts = length-append u (c ∷ w) in
    omega (arith, long, parts)

-- what comes before in the order of numbers
pub before_cases : (u v : List ℕ) → ComesBefore u v → IsLeft u v ⊎ IsLonger u v
before_cases [] v h = absurd h
before_cases (a ∷ u) [] h = inr (a, u, refl)
before_cases (a ∷ u) (b ∷ v) (inl less) = inl (inl less)
before_cases (a ∷ u) (b ∷ v) (inr more) = elim (before_cases u v more.1) [
  | inl left ↦ inl (inr (more.0, left))
  | inr longer ↦
      inr (longer.0, longer.1, ap (λ x. x ∷ u) more.0 ∙ ap (λ (l : List ℕ). b ∷ l) longer.2)
]

-- and what does in that of letters
pub less_cases : (u v : List ℕ) → slice_cmp nat_cmp u v ≡ Less → IsLeft u v ⊎ IsLonger v u
less_cases [] [] less = cc
less_cases [] (b ∷ v) less = inr (b, v, refl)
less_cases (a ∷ u) [] less = cc
less_cases (a ∷ u) (b ∷ v) less = elim (cases_lt a b) [
  | inl low ↦ inl (inl low)
  | inr high ↦ elim (cases_eq a b) [
    | inl same ↦
        let behind : slice_cmp nat_cmp u v ≡ Less =
        sym (slice_cmp-cons b u v)
        ∙ ap (λ x. slice_cmp nat_cmp (x ∷ u) (b ∷ v)) (sym same) ∙ less in
        elim (less_cases u v behind) [
          | inl left ↦ inl (inr (same, left))
          | inr longer ↦
              inr (
                longer.0,
                longer.1,
                ap (λ x. x ∷ v) (sym same)
                    ∙ ap (λ (l : List ℕ). a ∷ l) longer.2,
              )
        ]
    | inr other ↦
        let greater : Greater ≡ nat_cmp a b = nat_cmp_is a b Greater (omega (arith, high, other)) in
        let is : Greater ≡ Less =
        ap (λ o. ordering_then o (slice_cmp nat_cmp u v)) greater ∙ less in
        cc
  ]
]

pub left_less : (u v w z : List ℕ) → IsLeft u v → slice_cmp nat_cmp (u ++ w) (v ++ z) ≡ Less
left_less [] v w z h = absurd h
left_less (a ∷ u) [] w z h = absurd h
left_less (a ∷ u) (b ∷ v) w z (inl low) = lower_before a b (u ++ w) (v ++ z) low
left_less (a ∷ u) (b ∷ v) w z (inr more) =
    ap (λ x. slice_cmp nat_cmp (x ∷ (u ++ w)) (b ∷ (v ++ z))) more.0
    ∙ slice_cmp-cons b (u ++ w) (v ++ z)
    ∙ left_less u v w z more.1

pub not_less_itself : (u : List ℕ) → slice_cmp nat_cmp u u ≡ Less → ⊥
not_less_itself u less =
    absurd (let e : Equal ≡ Less = sym (tied_itself nat_list_cmp_total u) ∙ less in cc)

pub less_on : (u v w : List ℕ) → slice_cmp nat_cmp u v ≡ Less → slice_cmp nat_cmp v w ≡ Less →
    slice_cmp nat_cmp u w ≡ Less
less_on = nat_list_cmp_total.trans

pub left_on : (x u v : List ℕ) → IsLeft x u → IsLeft x (u ++ v)
left_on [] u v h = h
left_on (a ∷ x) [] v h = absurd h
left_on (a ∷ x) (b ∷ u) v (inl low) = inl low
left_on (a ∷ x) (b ∷ u) v (inr more) = inr (more.0, left_on x u v more.1)

pub left_at : (u : List ℕ) (c a : ℕ) (w : List ℕ) → c < a → IsLeft (u ++ c ∷ w) (u ++ a ∷ [])
left_at [] c a w low = inl low
left_at (b ∷ u) c a w low = inr (refl, left_at u c a w low)

pub left_push : (x u : List ℕ) (a : ℕ) → IsLeft x (u ++ a ∷ []) →
    IsLeft x u ⊎ ((c : ℕ) × (c < a) × GoesOnBy x u c)
left_push [] u a h = absurd h
left_push (c ∷ x) [] a (inl low) = inr (c, low, (x, refl))
left_push (c ∷ x) [] a (inr more) = absurd (nothing x more.1)
  where
    nothing : (x : List ℕ) → IsLeft x [] → ⊥
    nothing [] h = h
    nothing (c ∷ x) h = h
left_push (c ∷ x) (b ∷ u) a (inl low) = inl (inl low)
left_push (c ∷ x) (b ∷ u) a (inr more) = elim (left_push x u a more.1) [
  | inl left ↦ inl (inr (more.0, left))
  | inr on ↦ inr (
    on.0,
    on.1,
    (on.2.0, ap (λ y. y ∷ x) more.0 ∙ ap (λ (l : List ℕ). b ∷ l) on.2.1),
  )
]
