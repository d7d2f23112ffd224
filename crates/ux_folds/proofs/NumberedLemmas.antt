-- Values are looked through in a list while there are few, and found by their hashes when there are
-- more.
use Rattle.std.proofs.Common.{arith, ◌≡◌, ◌∙◌, ◌<◌, ◌≤◌, ℕ, zero, suc, ◌+◌, List, [], ◌∷◌, ◌++◌, Bool, true, false, cond, ◌||◌, refl, sym, ap, subst, length, get_or, take}
use Rattle.std.specs.Prelude.{None, Option, Some, nat_lt, position, slice_get}
use Rattle.std.specs.Cmp.{IsEquivalence}
use Rattle.std.specs.List.{IsDistinct, list_any, position_or_len}
use Rattle.std.specs.Option.{is_some}
use Rattle.std.proofs.lemmas.Bool.{le-ltb, lt-ltb}
use Rattle.std.proofs.lemmas.List.{length_push, take_more}
use Rattle.std.proofs.lemmas.List.Folds.{list_any_at}
use Rattle.std.proofs.lemmas.List.Quantifiers.{position-Some}
use Rattle.std.proofs.lemmas.List.Sums.{position_or_len_is}
use Rattle.std.proofs.lemmas.Map.Keys.{IsDistinct-push}
use Rattle.std.proofs.lemmas.Option.{slice_get-get_or}
use Rattle.indexmap.specs.IndexSet.{insert_key}
use Rattle.indexmap.proofs.MapLemmas.{distinct-take}
use Rattle.indexmap.proofs.SetLemmas.{set_all_distinct}
use Rattle.ux_folds.specs.Lists.{IsFirstOf, Keeps}
use Rattle.ux_folds.specs.Numbered.{AreFew, HasNumber}
use Rattle.ux_folds.proofs.ListsLemmas.{get_extended, keeps_same}
use Rattle.ux_folds.proofs.OnceLemmas.{are_once}

module _ {T : Type 0} (p : T → Bool) where
  -- the place of a number that is less, and none for one that isn't
  below : (i n : ℕ) → i < n → cond (nat_lt i n) (Some i) None ≡ Some i
  below i n inside = ap (λ (b : Bool). cond b (Some i) None) (lt-ltb i n inside)

  not_below : (i n : ℕ) → n ≤ i → cond (nat_lt i n) (Some i) None ≡ None
  not_below i n past = ap (λ (b : Bool). cond b (Some i) None) (le-ltb i n past)

  -- what is looked for stands at this place, and not before it
  pub found_first : (xs : List T) (i : ℕ) (d : T) → i < length xs →
      ((k : ℕ) → k < i → p (get_or xs k d) ≡ false) → p (get_or xs i d) ≡ true →
      Some i ≡ position p xs
  found_first xs i d inside before here =
      let is = position_or_len_is p xs i d (omega (arith, inside)) before (λ h. here) in
      sym (ap (λ (n : ℕ). cond (nat_lt n (length xs)) (Some n) None) is ∙ below i (length xs) inside)

  -- it stands nowhere
  pub found_nowhere : (xs : List T) (d : T) →
      ((k : ℕ) → k < length xs → p (get_or xs k d) ≡ false) → None ≡ position p xs
  found_nowhere xs d before =
      let is = position_or_len_is p xs (length xs) d (omega arith) before
      (λ h. absurd (omega (arith, h))) in
      sym (ap (λ (n : ℕ). cond (nat_lt n (length xs)) (Some n) None) is
      ∙ not_below (length xs) (length xs) (omega arith))

  pub none_passes : (xs : List T) (d : T) →
      ((k : ℕ) → k < length xs → p (get_or xs k d) ≡ false) → false ≡ list_any p xs
  none_passes [] d fails = refl
  none_passes (x ∷ xs) d fails =
      none_passes xs d (λ k h. fails (suc k) (omega (arith, h)))
      ∙ sym (ap (λ (b : Bool). b || list_any p xs) (fails 0 (omega arith)))

module _ {T : Type 0} (eq : T → T → Bool) where
  -- a value that was found has the number of its place
  pub found_number : (keys : List T) (value : T) (i : ℕ) → Some i ≡ position (eq value) keys →
      HasNumber eq keys value i
  found_number keys value i found =
      let at = position-Some (eq value) keys i value (sym found) in
      record {
        key = get_or keys i value;
        at = slice_get-get_or keys i value at.0;
        equal = at.1;
      }

  -- a value that is there isn't added
  pub there : (keys : List T) (value : T) → true ≡ list_any (eq value) keys →
      keys ≡ insert_key eq keys value
  there keys value found = ap (λ (b : Bool). cond b keys (keys ++ value ∷ [])) found

  -- a value that isn't there is added at the end
  pub not_there : (keys : List T) (value : T) → false ≡ list_any (eq value) keys →
      keys ++ value ∷ [] ≡ insert_key eq keys value
  not_there keys value missing = ap (λ (b : Bool). cond b keys (keys ++ value ∷ [])) missing

module _ {T : Type 0} (eq : T → T → Bool) (laws : IsEquivalence eq) where
  last_at : (keys : List T) (value : T) → slice_get (keys ++ value ∷ []) (length keys) ≡ Some value
  last_at [] value = refl
  last_at (x ∷ xs) value = last_at xs value

  -- the value at the end has the number behind the others
  pub last_number : (keys : List T) (value : T) →
      HasNumber eq (keys ++ value ∷ []) value (length keys)
  last_number keys value = record { key = value; at = last_at keys value; equal = laws.refl value }

  -- one more of a few
  pub few_more : (few : List T) (value : T) → AreFew eq few → length few < 12 →
      false ≡ list_any (eq value) few → AreFew eq (few ++ value ∷ [])
  few_more few value are room missing =
      let more = length_push few value in
      record {
        distinct = IsDistinct-push laws few value are.distinct (sym missing);
        count = omega (arith, more, room);
      }

  -- one more is moved to the set
  pub moved_more : (few now new : List T) (i : ℕ) (k : T) → IsDistinct eq few → i < length few →
      k ≡ get_or few i k → now ≡ take i few → new ≡ insert_key eq now k → new ≡ take (i + 1) few
  moved_more few now new i k distinct inside is same made =
      let more : take (i + 1) few ≡ take i few ++ k ∷ [] = take_more few i k inside
      ∙ ap (λ (x : T). take i few ++ x ∷ []) (sym is) in
      let apart : IsDistinct eq (take i few ++ k ∷ []) =
      subst (λ (l : List T). IsDistinct eq l) more (distinct-take laws (i + 1) few distinct) in
      made ∙ ap (λ (l : List T). insert_key eq l k) same
      ∙ set_all_distinct laws (take i few) (k ∷ []) apart ∙ sym more

module _ {T : Type 0} (eq : T → T → Bool) (same : (a b : T) → eq a b ≡ true → a ≡ b) where
  -- each value keeps its place where one is added
  keeps_added : (old new : List T) (value : T) → new ≡ insert_key eq old value → Keeps old new
  keeps_added old new value made = by (list_any (eq value) old) refl
    where
      by : (b : Bool) → list_any (eq value) old ≡ b → Keeps old new
      by true e = subst (λ (l : List T). Keeps old l)
          (sym (made ∙ ap (λ c. cond c old (old ++ value ∷ [])) e)) (keeps_same old)
      by false e = subst (λ (l : List T). Keeps old l)
          (sym (made ∙ ap (λ c. cond c old (old ++ value ∷ [])) e))
          (get_extended old (value ∷ []))

  -- the value that has the number is the one that was asked for
  pub at_number : (keys : List T) (value : T) (number : ℕ) → HasNumber eq keys value number →
      slice_get keys number ≡ Some value
  at_number keys value number has = has.at ∙ ap Some (sym (same value has.key has.equal))

  -- the value stands at its number alone, and each other one keeps its number
  pub placed : ((a : T) → eq a a ≡ true) → (old new : List T) (value : T) (number : ℕ) →
      new ≡ insert_key eq old value → HasNumber eq new value number → IsDistinct eq new →
      IsFirstOf old new value number
  placed itself old new value number made has distinct = record {
    at = at_number new value number has;
    once = are_once eq itself new distinct;
    kept = keeps_added old new value made;
  }
