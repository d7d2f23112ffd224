-- The newest of the first hashes in a bucket, and the number of the one before it there.
use Rattle.std.proofs.Common.{arith, ◌≡◌, ◌≢◌, inl, inr, ℕ, zero, suc, ◌<◌, ◌≤◌, ◌∙◌, List, ◌++◌, Bool, true, false, cond, refl, sym, ap, length, true≢false}
use Rattle.std.specs.Prelude.{nat_eq}
use Rattle.std.proofs.lemmas.Bool.{cases_lt}
use Rattle.std.proofs.lemmas.Bool.Decides.{Decides-eqb}
use Rattle.std.proofs.lemmas.List.{get_or_append_left}
use Rattle.ux_dawg.specs.Indexed.{bucket_at, bucket_in, newest_of}

module _ (many : ℕ) (hashes : List ℕ) (bucket : ℕ) where
  le_case : (t : Bool) (n m : ℕ) → m ≤ n → cond t (suc n) m ≤ suc n
  le_case true n m low = omega arith
  le_case false n m low = omega (arith, low)

  -- a mark is that of one of the first n states, or 0
  pub newest-le : (n : ℕ) → newest_of many hashes bucket n ≤ n
  newest-le zero = omega arith
  newest-le (suc n) =
      le_case (nat_eq (bucket_at many hashes n) bucket) n (newest_of many hashes bucket n)
      (newest-le n)

  in_case : (t : Bool) (n m : ℕ) → nat_eq (bucket_at many hashes n) bucket ≡ t →
      (newest_of many hashes bucket n ≡ suc m → bucket_at many hashes m ≡ bucket) →
      cond t (suc n) (newest_of many hashes bucket n) ≡ suc m → bucket_at many hashes m ≡ bucket
  in_case true n m is rest e =
      let same : n ≡ m = omega (arith, e) in
      ap (λ k. bucket_at many hashes k) (sym same)
      ∙ (Decides-eqb (bucket_at many hashes n) bucket).0 is
  in_case false n m is rest e = rest e

  -- that state is in the bucket
  pub newest-inside : (n m : ℕ) → newest_of many hashes bucket n ≡ suc m →
      bucket_at many hashes m ≡ bucket
  newest-inside zero m e = absurd (omega (arith, e))
  newest-inside (suc n) m e =
      in_case (nat_eq (bucket_at many hashes n) bucket) n m refl (newest-inside n m) e

  gap_case : (t : Bool) (n i : ℕ) → nat_eq (bucket_at many hashes n) bucket ≡ t →
      (newest_of many hashes bucket n ≤ i → i < n → bucket_at many hashes i ≢ bucket) →
      cond t (suc n) (newest_of many hashes bucket n) ≤ i → i < suc n →
      bucket_at many hashes i ≢ bucket
  gap_case true n i is rest low below = absurd (omega (arith, low, below))
  gap_case false n i is rest low below = elim (cases_lt i n) [
    | inl less ↦ rest low less
    | inr past ↦ λ same.
        let here : i ≡ n = omega (arith, below, past) in
        let equal = (Decides-eqb (bucket_at many hashes n) bucket).1
        (ap (λ k. bucket_at many hashes k) (sym here) ∙ same) in
        true≢false (sym equal ∙ is)
  ]

  -- and no later one is
  pub newest-gap : (n i : ℕ) → newest_of many hashes bucket n ≤ i → i < n →
      bucket_at many hashes i ≢ bucket
  newest-gap zero i low below = absurd (omega (arith, below))
  newest-gap (suc n) i low below =
      gap_case (nat_eq (bucket_at many hashes n) bucket) n i refl (newest-gap n i) low below

  -- hashes behind them change no mark
  pub newest-append : (more : List ℕ) (n : ℕ) → n ≤ length hashes →
      newest_of many (hashes ++ more) bucket n ≡ newest_of many hashes bucket n
  newest-append more zero within = refl
  newest-append more (suc n) within =
      let at = ap (bucket_in many) (get_or_append_left hashes more 0 n (omega (arith, within))) in
      ap (λ k. cond (nat_eq k bucket) (suc n) (newest_of many (hashes ++ more) bucket n)) at
      ∙ ap (λ m. cond (nat_eq (bucket_at many hashes n) bucket) (suc n) m)
      (newest-append more n (omega (arith, within)))

  -- the next state is the newest one of its bucket
  pub newest-here : (n : ℕ) → bucket_at many hashes n ≡ bucket →
      newest_of many hashes bucket (suc n) ≡ suc n
  newest-here n is =
      ap (λ t. cond t (suc n) (newest_of many hashes bucket n))
      ((Decides-eqb (bucket_at many hashes n) bucket).1 is)

  -- and of no other one
  pub newest-other : (n : ℕ) → bucket_at many hashes n ≢ bucket →
      newest_of many hashes bucket (suc n) ≡ newest_of many hashes bucket n
  newest-other n differ = by (nat_eq (bucket_at many hashes n) bucket) refl
    where
      by : (t : Bool) → nat_eq (bucket_at many hashes n) bucket ≡ t →
          cond t (suc n) (newest_of many hashes bucket n) ≡ newest_of many hashes bucket n
      by true is = absurd (differ ((Decides-eqb (bucket_at many hashes n) bucket).0 is))
      by false is = refl
