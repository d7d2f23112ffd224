-- States that number lists by their first use take the numbers in their order, and each of them.
use Rattle.std.proofs.Common.{arith, ◌≡◌, ◌≢◌, ℕ, zero, suc, ◌+◌, ◌<◌, ◌≤◌, List, [], ◌∷◌, ◌++◌, inl, inr, refl, sym, ◌∙◌, ap, subst, length, map, take, get_or}
use Rattle.std.specs.Prelude.{AllPairs, Contains, Option, None, Some, option_map, slice_get}
use Rattle.std.specs.List.{cons_option}
use Rattle.std.proofs.lemmas.Bool.{cases_lt}
use Rattle.std.proofs.lemmas.List.{take-map}
use Rattle.std.proofs.lemmas.Option.{get_or_from_slice_get, none-some, same_Some, slice_get-get_or, slice_get-map, slice_get_within}
use Rattle.ux_base.specs.Distinct.{AreFirsts}
use Rattle.ux_base.proofs.FirstsLemmas.{Contains-from_place}
use Rattle.ux_dawg.specs.declared.state.State.{State}
use Rattle.ux_base.proofs.OrderedLists.{slice_get-append_left}
use Rattle.ux_image.specs.Images.{numbers_in, renumbered}
use Rattle.ux_image.proofs.RenumberLemmas.{number_from, number_there, place_holds, place_of}
use Rattle.ux_image_reader.specs.Layout.{final_number}
use Rattle.ux_image_reader.specs.Tests.{used_by}
use Rattle.ux_image_reader.proofs.StatesLemmas.{final_number-le}

-- states use the numbers of so many lists in their order, and each of them
pub record AreUsed (lists : ℕ) (states : List State) : Type 0 where
  pub next : (i : ℕ) (s : State) (c : ℕ) → slice_get states i ≡ Some s → s.code ≡ Some c →
      c ≤ used_by (take i states)
  pub below_all : (i : ℕ) (s : State) (c : ℕ) → slice_get states i ≡ Some s → s.code ≡ Some c →
      c < lists
  pub all : lists ≤ used_by states

-- a state's number counts among those that are used
used_at : (states : List State) (j : ℕ) (s : State) (c : ℕ) → slice_get states j ≡ Some s →
    s.code ≡ Some c → c + 1 ≤ used_by states
used_at states j s c at is =
    let low = final_number-le states j s (slice_get_within states j s at)
    (sym (get_or_from_slice_get states j s s at)) in
    let same = ap final_number is in
    omega (arith, low, same)

-- the number of a state stands behind those of the states before it
number_place : (states : List State) (i : ℕ) (s : State) (n : ℕ) → slice_get states i ≡ Some s →
    s.code ≡ Some n → (rest : List ℕ) × (numbers_in states ≡ numbers_in (take i states) ++ n ∷ rest)
number_place [] i s n at is = absurd (none-some s at)
number_place (x ∷ states) zero s n at is =
    let code : x.code ≡ Some n = ap (λ (t : State). t.code) (same_Some x s at) ∙ is in
    (numbers_in states, ap (λ o. cons_option o (numbers_in states)) code)
number_place (x ∷ states) (suc i) s n at is =
    let more = number_place states i s n at is in
    (more.0, by x.code more.0 more.1)
  where
    by : (code : Option ℕ) (rest : List ℕ) →
        numbers_in states ≡ numbers_in (take i states) ++ n ∷ rest →
        cons_option code (numbers_in states)
        ≡ cons_option code (numbers_in (take i states)) ++ n ∷ rest
    by None rest same = same
    by (Some c) rest same = ap (λ (l : List ℕ). c ∷ l) same

at_length : (front : List ℕ) (x : ℕ) (rest : List ℕ) →
    slice_get (front ++ x ∷ rest) (length front) ≡ Some x
at_length [] x rest = refl
at_length (y ∷ front) x rest = at_length front x rest

-- what stands once stands at one place
pub one_place : (xs : List ℕ) → AllPairs (λ x y. x ≢ y) xs → (a b x : ℕ) → slice_get xs a ≡ Some x →
    slice_get xs b ≡ Some x → a ≡ b
one_place xs once a b x here there = elim (cases_lt a b) [
  | inl less ↦ absurd (apart a b less here there)
  | inr more ↦ elim (cases_lt b a) [
    | inl less ↦ absurd (apart b a less there here)
    | inr same ↦ omega (arith, more, same)
  ]
]
  where
    apart : (i j : ℕ) → i < j → slice_get xs i ≡ Some x → slice_get xs j ≡ Some x → ⊥
    apart i j less first second =
        once i j 0 less (slice_get_within xs j x second)
        (get_or_from_slice_get xs i x 0 first ∙ sym (get_or_from_slice_get xs j x 0 second))

module _ (states : List State) (order : List ℕ) (firsts : AreFirsts (numbers_in states) order) where
  into : State → State
  into = renumbered order

  -- the old number of a state
  record HasOld (i c : ℕ) : Type 0 where
    old : State
    stands : slice_get states i ≡ Some old
    number : ℕ
    is : old.code ≡ Some number
    place : slice_get order c ≡ Some number

  old_of : (i : ℕ) (s : State) (c : ℕ) → slice_get (map (renumbered order) states) i ≡ Some s →
      s.code ≡ Some c → HasOld i c
  old_of i s c at is = by (slice_get states i) refl
    where
      mapped : slice_get (map (renumbered order) states) i
          ≡ option_map (renumbered order) (slice_get states i)
      mapped = slice_get-map (renumbered order) states i

      by : (found : Option State) → slice_get states i ≡ found → HasOld i c
      by None none =
          absurd (none-some s (sym (ap (option_map (renumbered order)) none) ∙ sym mapped ∙ at))
      by (Some o) there =
          let same : renumbered order o ≡ s =
          same_Some (renumbered order o) s (sym (ap (option_map (renumbered order)) there)
          ∙ sym mapped ∙ at) in
          let code : option_map (place_of order) o.code ≡ Some c =
          ap (λ (t : State). t.code) same ∙ is in
          with_code o there o.code refl code
        where
          with_code : (o : State) → slice_get states i ≡ Some o → (code : Option ℕ) →
              o.code ≡ code → option_map (place_of order) o.code ≡ Some c → HasOld i c
          with_code o there None none code =
              absurd (none-some c (sym (ap (option_map (place_of order)) none) ∙ code))
          with_code o there (Some n) some code =
              let has = (firsts.same n).1
              (number_there states o n (Contains-from_place states i o there) some) in
              let place : place_of order n ≡ c =
              same_Some (place_of order n) c (sym (ap (option_map (place_of order)) some) ∙ code) in
              record {
                old = o;
                stands = there;
                number = n;
                is = some;
                place = subst (λ k. slice_get order k ≡ Some n) place (place_holds order n has);
              }

  -- a state before a place has the number, and so its new one is used there
  used_before : (i m p : ℕ) → Contains (numbers_in (take i states)) m →
      slice_get order p ≡ Some m → p + 1 ≤ used_by (take i (map (renumbered order) states))
  used_before i m p has place =
      let there = number_from (take i states) m has in
      let is_at : slice_get (map (renumbered order) (take i states)) there.0
      ≡ Some (renumbered order there.1) =
      slice_get-map (renumbered order) (take i states) there.0
      ∙ ap (option_map (renumbered order)) there.2 in
      let in_order = (firsts.same m).1 (numbers_front i m has) in
      let same : place_of order m ≡ p =
      one_place order firsts.once (place_of order m) p m (place_holds order m in_order) place in
      let code : (renumbered order there.1).code ≡ Some p =
      ap (option_map (place_of order)) there.3 ∙ ap Some same in
      subst (λ (l : List State). p + 1 ≤ used_by l) (sym (take-map (renumbered order) i states))
      (used_at (map (renumbered order) (take i states)) there.0 (renumbered order there.1) p is_at
      code)
    where
      numbers_front : (i m : ℕ) → Contains (numbers_in (take i states)) m →
          Contains (numbers_in states) m
      numbers_front i m has =
          let there = number_from (take i states) m has in
          number_there states there.1 m
          (Contains-from_place states there.0 there.1
          (front_at states i there.0 there.1 there.2)) there.3
        where
          front_at : (xs : List State) (i j : ℕ) (s : State) → slice_get (take i xs) j ≡ Some s →
              slice_get xs j ≡ Some s
          front_at xs zero j s at = absurd (none-some s at)
          front_at [] (suc i) j s at = at
          front_at (x ∷ xs) (suc i) zero s at = at
          front_at (x ∷ xs) (suc i) (suc j) s at = front_at xs i j s at

  pub first_used : AreUsed (length order) (map (renumbered order) states)
  first_used = record {
    next = λ i s c at is. next_of i c (old_of i s c at is);
    below_all = λ i s c at is.
        let old = old_of i s c at is in slice_get_within order c old.number old.place;
    all = all_of (length order) refl;
  }
    where
      next_of : (i c : ℕ) → HasOld i c → c ≤ used_by (take i (map (renumbered order) states))
      next_of i zero old = omega arith
      next_of i (suc p) old =
          let within = slice_get_within order (suc p) old.number old.place in
          let m = get_or order p 0 in
          let at = slice_get-get_or order p 0 (omega (arith, within)) in
          let before = firsts.order p (suc p) 0 (omega arith) within in
          let split = number_place states i old.old old.number old.stands old.is in
          let k = length (numbers_in (take i states)) in
          let here : slice_get (numbers_in states) k ≡ Some (get_or order (suc p) 0) =
          ap (λ (l : List ℕ). slice_get l k) split.1
          ∙ at_length (numbers_in (take i states)) old.number split.0
          ∙ ap Some (sym (get_or_from_slice_get order (suc p) old.number 0 old.place)) in
          let earlier = before k here in
          let front : slice_get (numbers_in (take i states)) earlier.0 ≡ Some m =
          sym (slice_get-append_left (numbers_in (take i states)) (old.number ∷ split.0) earlier.0
          earlier.1) ∙ ap (λ (l : List ℕ). slice_get l earlier.0) (sym split.1) ∙ earlier.2 in
          let used = used_before i m p
          (Contains-from_place (numbers_in (take i states)) earlier.0 m front) at in
          omega (arith, used)

      all_of : (n : ℕ) → length order ≡ n → n ≤ used_by (map (renumbered order) states)
      all_of zero long = omega arith
      all_of (suc n) long =
          let m = get_or order n 0 in
          let at = slice_get-get_or order n 0 (omega (arith, long)) in
          let has = (firsts.same m).0 (Contains-from_place order n m at) in
          let there = number_from states m has in
          let is_at : slice_get (map (renumbered order) states) there.0
          ≡ Some (renumbered order there.1) =
          slice_get-map (renumbered order) states there.0
          ∙ ap (option_map (renumbered order)) there.2 in
          let in_order = (firsts.same m).1 has in
          let same : place_of order m ≡ n =
          one_place order firsts.once (place_of order m) n m (place_holds order m in_order) at in
          let code : (renumbered order there.1).code ≡ Some n =
          ap (option_map (place_of order)) there.3 ∙ ap Some same in
          let used = used_at (map (renumbered order) states) there.0 (renumbered order there.1) n
          is_at code in
          omega (arith, used)
