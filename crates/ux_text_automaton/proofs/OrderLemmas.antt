-- The order of links is total, and links that are sorted by it and differ stand strictly in order.
use Rattle.std.proofs.Common.{arith, Ordering, ◌≡◌, zero, suc, ◌<◌, List, [], ◌∷◌, ◌++◌, false, map, get_or, refl, sym, ◌∙◌, ap}
use Rattle.std.specs.Prelude.{All, AllPairs}
use Rattle.std.specs.Cmp.{IsTotalOrder, nat_cmp_is}
use Rattle.std.specs.Cmp.Lexicographic.{slice_cmp}
use Rattle.std.specs.List.{IsDistinct}
use Rattle.std.specs.List.Sorted.{IsPermutation, IsSorted}
use Rattle.std.specs.Ordering.{eq_by_cmp, is_eq, is_lt, nat_cmp, ordering_reverse, ordering_then}
use Rattle.std.specs.declared.cmp.Ordering.TheVariants.{Less, Equal, Greater}
use Rattle.std.proofs.lemmas.Bool.{false≢true}
use Rattle.std.proofs.lemmas.Cmp.{eq_by_cmp_equiv, nat_cmp_total, nat_list_cmp_total, on_total, then_total}
use Rattle.std.proofs.lemmas.List.Elements.{All-append, All-head, All-map, All-tail}
use Rattle.std.proofs.lemmas.List.Kept.{AllPairs-cons}
use Rattle.std.proofs.lemmas.List.Sorted.{ranks_by, sorted_far}
use Rattle.std.proofs.lemmas.Map.Keys.{IsDistinct-IsPermutation, IsDistinct-from_apart, apart_from_distinct}
use Rattle.std.proofs.lemmas.Map.Lookups.{exact_bytes, exact_unsigned}
use Rattle.ux_sentence.specs.declared.sentence.Link.{Link}
use Rattle.ux_sentence.specs.Written.{reading_text}
use Rattle.ux_text_automaton.specs.declared.keyed.Keyed.{Keyed}
use Rattle.ux_text_automaton.specs.Candidates.{keyed_cmp}
use Rattle.ux_text_automaton.specs.Order.{AreInOrder, link_cmp}

pub link_total : IsTotalOrder link_cmp
link_total = then_total (on_total (λ (link : Link). link.from) nat_cmp_total)
    (then_total (on_total (λ (link : Link). link.to) nat_cmp_total)
    (on_total (λ (link : Link). reading_text link.reading) nat_list_cmp_total))

pub keyed_total : IsTotalOrder keyed_cmp
keyed_total = then_total (on_total (λ (keyed : Keyed). keyed.link.from) nat_cmp_total)
    (then_total (on_total (λ (keyed : Keyed). keyed.link.to) nat_cmp_total)
    (on_total (λ (keyed : Keyed). keyed.printed) nat_list_cmp_total))

-- what a comparison answers tells which belongs before the other
pub compared : (a b : Keyed) (answer : Ordering) (Same : Type 0) →
    (answer ≡ keyed_cmp a b) × Same → (is_lt answer ≡ is_lt (keyed_cmp a b)) × Same
compared a b answer Same is = (ap is_lt is.0, is.1)

-- a link from a lower state is before
pub lower_first : (a b : Link) → a.from < b.from → link_cmp a b ≡ Less
lower_first a b lt =
    ap (λ (r : Ordering). ordering_then r (ordering_then (nat_cmp a.to b.to)
    (slice_cmp nat_cmp (reading_text a.reading) (reading_text b.reading))))
    (sym (nat_cmp_is a.from b.from Less lt))

both_equal : (r s : Ordering) → ordering_then r s ≡ Equal → (r ≡ Equal) × (s ≡ Equal)
both_equal Less s is = absurd (cc)
both_equal Equal s is = (refl, is)
both_equal Greater s is = absurd (cc)

-- links that tie lead to one state and are printed alike
pub tied : (a b : Link) → link_cmp a b ≡ Equal →
    (a.to ≡ b.to) × (reading_text a.reading ≡ reading_text b.reading)
tied a b is =
    let text = slice_cmp nat_cmp (reading_text a.reading) (reading_text b.reading) in
    let first = both_equal (nat_cmp a.from b.from) (ordering_then (nat_cmp a.to b.to) text) is in
    let second = both_equal (nat_cmp a.to b.to) text first.1 in (
      exact_unsigned a.to b.to second.0,
      exact_bytes (reading_text a.reading) (reading_text b.reading) second.1,
    )

less_by : (r s : Ordering) → s ≡ ordering_reverse r → is_lt s ≡ false → is_eq r ≡ false → r ≡ Less
less_by Less s back low apart = refl
less_by Equal s back low apart = absurd (false≢true (sym apart))
less_by Greater s back low apart = absurd (false≢true (sym low ∙ ap is_lt back))

not_equal : (r : Ordering) → (r ≡ Equal → ⊥) → is_eq r ≡ false
not_equal Less apart = refl
not_equal Equal apart = absurd (apart refl)
not_equal Greater apart = refl

-- links none of which tie stand strictly in order once they are sorted
pub strictly : (found put : List Link) → IsPermutation found put → IsSorted link_cmp put →
    AllPairs (λ a b. link_cmp a b ≡ Equal → ⊥) found → AreInOrder put
strictly found put moved up apart i j d before within =
    let E = eq_by_cmp link_cmp in
    let laws = eq_by_cmp_equiv link_total in
    let once : IsDistinct E found = IsDistinct-from_apart E found
    (λ i j d before within. not_equal (link_cmp (get_or found i d) (get_or found j d))
    (apart i j d before within)) in
    let still = IsDistinct-IsPermutation E laws.symm found put moved once in
    let a = get_or put i d in
    let b = get_or put j d in
    less_by (link_cmp a b) (link_cmp b a) (link_total.antisymm b a)
    (sorted_far (λ x y. is_lt (link_cmp x y)) (ranks_by link_total (λ (link : Link). link)) put up i j d
    (omega (arith, before)) within)
    (apart_from_distinct E put i j d still before within)

-- PAIRS

module _ {X : Type 0} (R : X → X → Type 0) where
  pairs_head : (x : X) (xs : List X) → AllPairs R (x ∷ xs) → All (R x) xs
  pairs_head x xs all = λ k d within. all zero (suc k) d (omega arith) (omega (arith, within))

  pairs_tail : (x : X) (xs : List X) → AllPairs R (x ∷ xs) → AllPairs R xs
  pairs_tail x xs all = λ i j d before within.
      all (suc i) (suc j) d (omega (arith, before)) (omega (arith, within))

  -- two lists, one behind the other
  pub pairs_append : (xs ys : List X) → AllPairs R xs → AllPairs R ys →
      All (λ x. All (R x) ys) xs → AllPairs R (xs ++ ys)
  pairs_append [] ys front back across = back
  pairs_append (x ∷ xs) ys front back across =
      AllPairs-cons R x (xs ++ ys)
      (All-append (R x) xs ys (pairs_head x xs front)
      (All-head (λ y. All (R y) ys) x xs across))
      (pairs_append xs ys (pairs_tail x xs front) back (All-tail (λ y. All (R y) ys) x xs across))

-- pairs of a list under a map
pub pairs_mapped : {X Y : Type 0} (R : X → X → Type 0) (S : Y → Y → Type 0) (f : X → Y)
    (P : X → Type 0) → ((a b : X) → P a → P b → R a b → S (f a) (f b)) → (xs : List X) → All P xs →
    AllPairs R xs → AllPairs S (map f xs)
pairs_mapped R S f P means [] each all = λ i j d before within. absurd (omega (arith, within))
pairs_mapped R S f P means (x ∷ xs) each all =
    AllPairs-cons S (f x) (map f xs)
    (All-map (S (f x)) f xs
    (λ k d lt. means x (get_or xs k d) (each 0 x (omega arith)) (each (suc k) d (omega (arith, lt)))
    (pairs_head R x xs all k d lt)))
    (pairs_mapped R S f P means xs (λ k d lt. each (suc k) d (omega (arith, lt)))
    (pairs_tail R x xs all))
