-- Where keys ascend, a search by halves finds the first entry with a key.
use Rattle.std.proofs.Common.{arith, ◌≡◌, ℕ, zero, suc, ◌<◌, ◌≤◌, List, [], ◌∷◌, refl, sym, ◌∙◌, ap, inl, inr, length, get_or, Bool, true, false, cond, Some, None, Result, Ok, Err}
use Rattle.std.specs.Prelude.{nat_eq, MatchResult}
use Rattle.std.specs.List.Sorted.{IsSearchInRange, IsBinarySearchResult, IsNonDecreasingBy}
use Rattle.std.specs.Ordering.{nat_cmp, ordering_index}
use Rattle.std.proofs.lemmas.List.Sorted.{IsNonDecreasingBy-from_default}
use Rattle.std.proofs.lemmas.Bool.{eqb-true, eq-eqb}
use Rattle.std.proofs.lemmas.Bool.Decides.{nat_tests}
use Rattle.std.proofs.lemmas.Cmp.{ranked}
use Rattle.ux_base.proofs.Lists.{less_or}
use Rattle.ux_net.specs.Keys.{first_with}

-- a test of numbers that differ
pub apart : (a b : ℕ) → (a ≡ b → ⊥) → nat_eq a b ≡ false
apart a b differ = go (nat_eq a b) refl
  where
    go : (t : Bool) → nat_eq a b ≡ t → nat_eq a b ≡ false
    go true is = absurd (differ (eqb-true a b is))
    go false is = is

module _ {A B : Type 0} (of : A → ℕ) (give : A → B) (nothing : A) where
  -- the key of the entry at an index
  abbrev pub key_at : List A → ℕ → ℕ
  key_at entries i = of (get_or entries i nothing)

  -- the keys ascend
  abbrev pub KeysAscend : List A → Type 0
  KeysAscend entries = (i j : ℕ) → i < j → j < length entries → key_at entries i < key_at entries j

  -- they do so behind the first entry
  pub later_keys : (e : A) (rest : List A) → KeysAscend (e ∷ rest) → KeysAscend rest
  later_keys e rest up i j lt within = up (suc i) (suc j) (omega (arith, lt)) (omega (arith, within))

  -- an entry is found by its key
  pub first_at : (entries : List A) → KeysAscend entries → (i : ℕ) → i < length entries →
      first_with of give entries (key_at entries i) ≡ Some (give (get_or entries i nothing))
  first_at [] up i lt = absurd (omega (arith, lt))
  first_at (e ∷ rest) up zero lt =
      ap (λ (t : Bool). cond t (Some (give e)) (first_with of give rest (of e)))
      (eq-eqb (of e) (of e) refl)
  first_at (e ∷ rest) up (suc i) lt =
      let less : of e < key_at rest i = up 0 (suc i) (omega arith) lt in
      ap (λ (t : Bool). cond t (Some (give e)) (first_with of give rest (key_at rest i)))
      (apart (of e) (key_at rest i) (λ same. omega (arith, less, same)))
      ∙ first_at rest (later_keys e rest up) i (omega (arith, lt))

  -- and nothing for a key of no entry
  pub first_not : (entries : List A) (key : ℕ) →
      ((i : ℕ) → i < length entries → key_at entries i ≡ key → ⊥) →
      first_with of give entries key ≡ None
  first_not [] key none = refl
  first_not (e ∷ rest) key none =
      ap (λ (t : Bool). cond t (Some (give e)) (first_with of give rest key))
      (apart (of e) key (λ same. none 0 (omega arith) same))
      ∙ first_not rest key (λ i lt same. none (suc i) (omega (arith, lt)) same)

  module _ (entries : List A) (up : KeysAscend entries) (key : ℕ) where
    rise : (i j : ℕ) → i ≤ j → j < length entries → key_at entries i ≤ key_at entries j
    rise i j le within = elim (less_or i j) [
      | inl less ↦ let lt = up i j less within in omega (arith, lt)
      | inr past ↦
          let same : i ≡ j = omega (arith, le, past) in
          let e = ap (key_at entries) same in
          omega (arith, e)
    ]

    -- the comparisons with the key rise along the list, as a search by halves asks
    comparisons_rise :
        IsNonDecreasingBy (λ (entry : A). ordering_index (nat_cmp (of entry) key)) entries
    comparisons_rise = IsNonDecreasingBy-from_default
        (λ (entry : A). ordering_index (nat_cmp (of entry) key)) entries nothing
        (λ i j le within. let keys_rise = rise i j le within in grind (arith, nat_tests))

    -- such a search finds the first entry with the key
    pub searched : (r : Result ℕ ℕ) → IsSearchInRange r (length entries) →
        IsBinarySearchResult (λ (entry : A). nat_cmp (of entry) key) entries r →
        MatchResult r
        (λ at. first_with of give entries key ≡ Some (give (get_or entries at nothing)))
        (λ at. first_with of give entries key ≡ None)
    searched (Ok at) within equal =
        let here : key_at entries at ≡ key = ranked _ key _ (sym (equal nothing)) in
        ap (first_with of give entries) (sym here) ∙ first_at entries up at within
    searched (Err at) within parted = first_not entries key (λ i lt same. elim (less_or i at) [
      | inl before ↦
          let less : key_at entries i < key =
          ranked _ key _ (sym ((parted comparisons_rise).0 i nothing (omega (arith, lt)) before)) in
          omega (arith, less, same)
      | inr behind ↦
          let more : key < key_at entries i =
          ranked _ key _ (sym ((parted comparisons_rise).1 i nothing behind lt)) in
          omega (arith, more, same)
    ])
