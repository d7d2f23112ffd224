-- What two searches for the ends of a run find: the members of one rank.
use Rattle.std.proofs.Common.{◌≡◌, ℕ, zero, suc, ◌+◌, ◌-◌, ◌<◌, ◌≤◌, ltb, List, [], ◌∷◌, Bool, true, false, length, map, take, drop, get_or, refl, sym, ◌∙◌, ap, subst, arith, inl, inr}
use Rattle.std.specs.Prelude.{◌==◌, All, Some, filter, slice_get}
use Rattle.std.specs.List.{AllWithin}
use Rattle.std.specs.List.Sorted.{IsNonDecreasingBy, IsPartitionPoint}
use Rattle.std.proofs.lemmas.List.Sorted.{IsNonDecreasingBy-short}
use Rattle.std.proofs.lemmas.Bool.{both_ways, cases_Bool, cases_lt, le-ltb, eqb-true, false_from_ne_true, ltb-true, ltb-false}
use Rattle.std.proofs.lemmas.List.{drop-map, take-map, take_all, get_or-drop, get_or-map, get_or-take, get_or_default, length-drop, length-map, length-take-le}
use Rattle.std.proofs.lemmas.Option.{get_or_from_slice_get}
use Rattle.std.proofs.lemmas.List.Elements.{All-head, All-tail}
use Rattle.ux_base.proofs.OrderedLists.{filter-true, filter-false}

module _ {X : Type 0} (p : X → Bool) where
  shifted : (b : Bool) (x : X) (xs : List X) (high : ℕ) →
      AllWithin (λ y. p y ≡ b) (x ∷ xs) 0 (suc high) → AllWithin (λ y. p y ≡ b) xs 0 high
  shifted b x xs high all k d low lt = all (suc k) d (omega arith) (omega (arith, lt))

  shifted_from : (b : Bool) (x : X) (xs : List X) (low : ℕ) →
      AllWithin (λ y. p y ≡ b) (x ∷ xs) (suc low) (suc (length xs)) →
      AllWithin (λ y. p y ≡ b) xs low (length xs)
  shifted_from b x xs low all k d above lt =
      all (suc k) d (omega (arith, above)) (omega (arith, lt))

  pub filter_none : (xs : List X) → AllWithin (λ y. p y ≡ false) xs 0 (length xs) →
      filter p xs ≡ []
  filter_none [] fails = refl
  filter_none (x ∷ xs) fails =
      filter-false p x xs (fails 0 x (omega arith) (omega arith))
      ∙ filter_none xs (shifted false x xs (length xs) fails)

  -- the front that passes
  pub filter_front : (xs : List X) (i : ℕ) → AllWithin (λ y. p y ≡ true) xs 0 i →
      AllWithin (λ y. p y ≡ false) xs i (length xs) → filter p xs ≡ take i xs
  filter_front [] zero passes fails = refl
  filter_front [] (suc i) passes fails = refl
  filter_front (x ∷ xs) zero passes fails = filter_none (x ∷ xs) fails
  filter_front (x ∷ xs) (suc i) passes fails =
      filter-true p x xs (passes 0 x (omega arith) (omega arith))
      ∙ ap (λ l. x ∷ l)
      (filter_front xs i (shifted true x xs i passes) (shifted_from false x xs i fails))

  -- what stands behind a front that doesn't
  pub filter_behind : (xs : List X) (i : ℕ) → AllWithin (λ y. p y ≡ false) xs 0 i →
      filter p xs ≡ filter p (drop i xs)
  filter_behind xs zero fails = refl
  filter_behind [] (suc i) fails = refl
  filter_behind (x ∷ xs) (suc i) fails =
      filter-false p x xs (fails 0 x (omega arith) (omega arith))
      ∙ filter_behind xs i (shifted false x xs i fails)

one_from : (m : ℕ) → m ≡ 1 → (m == 1) ≡ true
one_from m is = ap (λ k. k == 1) is

not_one : (m : ℕ) → (m ≡ 1 → ⊥) → (m == 1) ≡ false
not_one m other = elim (cases_Bool (m == 1)) [
  | inl is ↦ absurd (other (eqb-true m 1 is))
  | inr is ↦ is
]

module _ {X : Type 0} (n : X → ℕ) where
  -- whether a member is of the middle rank
  abbrev pub is_middle : X → Bool
  is_middle y = n y == 1

  run : (xs rest : List X) (start end : ℕ) → rest ≡ drop start xs →
      IsPartitionPoint (λ y. ltb (n y) 1 ≡ true) (λ y. ltb (n y) 1 ≡ false) xs start →
      IsPartitionPoint (λ y. ltb (n y) 2 ≡ true) (λ y. ltb (n y) 2 ≡ false) rest end →
      end ≤ length rest → filter is_middle rest ≡ take end rest
  run xs rest start end is first second within =
      filter_front is_middle rest end
      (λ k d low lt.
      let inside : k < length rest = omega arith in
      let size = ap length is ∙ length-drop start xs in
      let read : get_or rest k d ≡ get_or xs (start + k) d =
      ap (λ (l : List X). get_or l k d) is ∙ get_or-drop start xs k d in
      let up = ltb-false (n (get_or xs (start + k) d)) 1
      (first.1 (start + k) d (omega arith) (omega (arith, size, inside))) in
      let down = ltb-true (n (get_or rest k d)) 2 (second.0 k d low lt) in
      let same = ap n read in
      one_from (n (get_or rest k d)) (omega (arith, up, down, same)))
      (λ k d low lt.
      let up = ltb-false (n (get_or rest k d)) 2 (second.1 k d low lt) in
      not_one (n (get_or rest k d)) (λ is. absurd (omega (arith, up, is))))

  -- the run between the first place of rank 1 or more and the first of 2
  pub filter_run : (xs rest : List X) (start end : ℕ) → rest ≡ drop start xs →
      IsPartitionPoint (λ y. ltb (n y) 1 ≡ true) (λ y. ltb (n y) 1 ≡ false) xs start →
      IsPartitionPoint (λ y. ltb (n y) 2 ≡ true) (λ y. ltb (n y) 2 ≡ false) rest end →
      end ≤ length rest → take end rest ≡ filter is_middle xs
  filter_run xs rest start end is first second within =
      let skipped = filter_behind is_middle xs start
      (λ k d low lt.
      let down = ltb-true (n (get_or xs k d)) 1 (first.0 k d low lt) in
      not_one (n (get_or xs k d)) (λ is. absurd (omega (arith, down, is)))) in
      sym (skipped ∙ ap (filter is_middle) (sym is)
      ∙ run xs rest start end is first second within)

-- what holds of images at some places holds of the members there
AllWithin-map : {X : Type 0} (f : X → ℕ) (p : ℕ → Bool) (b : Bool) (xs : List X) (keys : List ℕ)
    (low high top : ℕ) → keys ≡ map f xs → top ≤ high → top ≤ length xs →
    AllWithin (λ y. p y ≡ b) keys low high → AllWithin (λ x. p (f x) ≡ b) xs low top
AllWithin-map f p b xs keys low high top is less within all k d above lt =
    subst (λ m. p m ≡ b) (ap (λ (l : List ℕ). get_or l k (f d)) is
    ∙ get_or-map f xs k d (f d) (omega (arith, within, lt)))
    (all k (f d) above (omega (arith, less, lt)))

-- a run found by numbers beside the members
pub filter_run_beside : {X : Type 0} (f : X → ℕ) (rank : ℕ → ℕ) (xs : List X)
    (keys rest : List ℕ) (start end : ℕ) → keys ≡ map f xs → rest ≡ drop start keys →
    start ≤ length keys →
    IsPartitionPoint (λ y. ltb (rank y) 1 ≡ true) (λ y. ltb (rank y) 1 ≡ false) keys start →
    IsPartitionPoint (λ y. ltb (rank y) 2 ≡ true) (λ y. ltb (rank y) 2 ≡ false) rest end →
    end ≤ length rest → take end (drop start xs) ≡ filter (λ x. rank (f x) == 1) xs
filter_run_beside f rank xs keys rest start end keyed is within first second bound =
    let one = λ (y : ℕ). ltb (rank y) 1 in
    let two = λ (y : ℕ). ltb (rank y) 2 in
    let size : length keys ≡ length xs = ap length keyed ∙ length-map xs f in
    let later = drop start xs in
    let same : rest ≡ map f later = is ∙ ap (drop start) keyed ∙ drop-map f start xs in
    let left : length rest ≡ length later = ap length same ∙ length-map later f in
    filter_run (λ x. rank (f x)) xs later start end refl (
      AllWithin-map f one true xs keys 0 start start keyed (omega arith) (omega (arith, within, size))
          first.0,
      AllWithin-map f one false xs keys start (length keys) (length xs) keyed (omega (arith, size))
          (omega arith) first.1,
    ) (
      AllWithin-map f two true later rest 0 end end same (omega arith) (omega (arith, bound, left))
          second.0,
      AllWithin-map f two false later rest end (length rest) (length later) same
          (omega (arith, left)) (omega arith) second.1,
    )
    (omega (arith, bound, left))

-- to filter once more by a stronger test
pub filter_within : {X : Type 0} (p q : X → Bool) (xs : List X) →
    All (λ x. p x ≡ true → q x ≡ true) xs → filter p (filter q xs) ≡ filter p xs
filter_within p q [] stronger = refl
filter_within {X = X} p q (x ∷ xs) stronger =
    let Stronger : X → Type 0 = λ y. p y ≡ true → q y ≡ true in
    let later = filter_within p q xs (All-tail Stronger x xs stronger) in
    elim (cases_Bool (q x)) [
      | inl stays ↦ elim (cases_Bool (p x)) [
        | inl passes ↦ ap (filter p) (filter-true q x xs stays)
            ∙ filter-true p x (filter q xs) passes ∙ ap (λ l. x ∷ l) later
            ∙ sym (filter-true p x xs passes)
        | inr fails ↦ ap (filter p) (filter-true q x xs stays)
            ∙ filter-false p x (filter q xs) fails ∙ later ∙ sym (filter-false p x xs fails)
      ]
      | inr goes ↦ (
          let fails : p x ≡ false =
          false_from_ne_true (p x) (λ passes. both_ways (q x) goes
          (All-head Stronger x xs stronger passes)) in
          ap (filter p) (filter-false q x xs goes) ∙ later ∙ sym (filter-false p x xs fails))
    ]

-- cut alike, numbers beside the members stay beside them
pub map-cut : {X : Type 0} (f : X → ℕ) (xs cut : List X) (keys cut_keys : List ℕ)
    (start count : ℕ) → keys ≡ map f xs → cut ≡ take count (drop start xs) →
    cut_keys ≡ take count (drop start keys) → cut_keys ≡ map f cut
map-cut f xs cut keys cut_keys start count keyed is also =
    also ∙ ap (λ (l : List ℕ). take count (drop start l)) keyed
    ∙ ap (take count) (drop-map f start xs) ∙ take-map f count (drop start xs)
    ∙ ap (map f) (sym is)

-- what rises with numbers rises along them
pub IsNonDecreasingBy-map : {X : Type 0} (f : X → ℕ) (n : ℕ → ℕ) (xs : List X) (keys : List ℕ) →
    keys ≡ map f xs → ((a b : ℕ) → a ≤ b → n a ≤ n b) → IsNonDecreasingBy f xs →
    IsNonDecreasingBy n keys
IsNonDecreasingBy-map f n [] keys is up rises =
    IsNonDecreasingBy-short n keys (omega (arith, ap length is))
IsNonDecreasingBy-map f n (x ∷ xs) keys is up rises = λ i j d le lt.
    let all = x ∷ xs in
    let size : length keys ≡ length all = ap length is ∙ length-map all f in
    let first = ap (λ (l : List ℕ). get_or l i d) is
    ∙ get_or-map f all i x d (omega (arith, le, lt, size)) in
    let second = ap (λ (l : List ℕ). get_or l j d) is
    ∙ get_or-map f all j x d (omega (arith, lt, size)) in
    let more = up (f (get_or all i x)) (f (get_or all j x))
    (rises i j x le (omega (arith, lt, size))) in
    let a = ap n first in
    let b = ap n second in
    omega (arith, more, a, b)

-- the point where a front of the numbers is cut is that of all, where those behind are above
pub point_in_front : (n : ℕ → ℕ) (rest : List ℕ) (reach count : ℕ) → IsNonDecreasingBy n rest →
    (reach < length rest → 2 ≤ n (get_or rest reach 0)) →
    IsPartitionPoint (λ y. ltb (n y) 2 ≡ true) (λ y. ltb (n y) 2 ≡ false) (take reach rest) count →
    count ≤ length (take reach rest) →
    IsPartitionPoint (λ y. ltb (n y) 2 ≡ true) (λ y. ltb (n y) 2 ≡ false) rest count
point_in_front n rest reach count rises above point bound = elim (cases_lt reach (length rest)) [
  | inr le ↦ subst (λ (l : List ℕ). IsPartitionPoint (λ y. ltb (n y) 2 ≡ true)
      (λ y. ltb (n y) 2 ≡ false) l count) (take_all reach rest le) point
  | inl lt ↦ (
      let size = length-take-le reach rest (omega (arith, lt)) in (
        λ k d low below.
            subst (λ m. ltb (n m) 2 ≡ true)
            (get_or-take reach rest k d (omega (arith, below, bound, size)))
            (point.0 k d low below),
        λ k d from inside. elim (cases_lt k reach) [
          | inl near ↦ subst (λ m. ltb (n m) 2 ≡ false) (get_or-take reach rest k d near)
              (point.1 k d from (omega (arith, near, size)))
          | inr far ↦ (
              let up = rises reach k 0 far inside in
              let there = above lt in
              let same = ap n (get_or_default rest k 0 d inside) in
              le-ltb (n (get_or rest k d)) 2 (omega (arith, up, there, same)))
        ],
      ))
]

-- where the ends of a run are of the middle rank, all are
pub filter_ends : {X : Type 0} (n : X → ℕ) (xs : List X) (first last : X) →
    IsNonDecreasingBy n xs → slice_get xs 0 ≡ Some first →
    slice_get xs (length xs - 1) ≡ Some last → (n first == 1) ≡ true → (n last == 1) ≡ true →
    filter (λ x. n x == 1) xs ≡ xs
filter_ends n xs first last rises begin end low high =
    filter_front (λ x. n x == 1) xs (length xs)
    (λ k d from lt.
    let a = ap n (get_or_from_slice_get xs 0 first d begin) in
    let b = ap n (get_or_from_slice_get xs (length xs - 1) last d end) in
    let up = rises 0 k d from lt in
    let down = rises k (length xs - 1) d (omega (arith, lt)) (omega (arith, lt)) in
    let one = eqb-true (n first) 1 low in
    let also = eqb-true (n last) 1 high in
    one_from (n (get_or xs k d)) (omega (arith, a, b, up, down, one, also)))
    (λ k d from lt. absurd (omega (arith, from, lt)))
    ∙ take_all (length xs) xs (omega arith)
