-- What holds of each pair of a list's elements: as the list grows at the front, at the end, and under
-- a map.
use Rattle.std.proofs.Common.{arith, ◌<◌, zero, suc, List, [], ◌∷◌, ◌++◌, length, map}
use Rattle.std.specs.Prelude.{All, AllPairs}
use Rattle.std.proofs.lemmas.List.Elements.{All-append, All-head, All-map, All-tail, All-weaker}

module _ {X : Type 0} (R : X → X → Type 0) where
  -- fewer than two elements make no pair
  pub pairs_short : (xs : List X) → length xs < 2 → AllPairs R xs
  pairs_short xs short = λ i j d before within. absurd (omega (arith, short, before, within))

  pairs_cons : (x : X) (xs : List X) → All (R x) xs → AllPairs R xs → AllPairs R (x ∷ xs)
  pairs_cons x xs first rest zero zero d before within = absurd (omega (arith, before))
  pairs_cons x xs first rest (suc i) zero d before within = absurd (omega (arith, before))
  pairs_cons x xs first rest zero (suc j) d before within = first j d (omega (arith, within))
  pairs_cons x xs first rest (suc i) (suc j) d before within =
      rest i j d (omega (arith, before)) (omega (arith, within))

  pairs_head : (x : X) (xs : List X) → AllPairs R (x ∷ xs) → All (R x) xs
  pairs_head x xs all = λ k d within. all zero (suc k) d (omega arith) (omega (arith, within))

  pairs_tail : (x : X) (xs : List X) → AllPairs R (x ∷ xs) → AllPairs R xs
  pairs_tail x xs all = λ i j d before within.
      all (suc i) (suc j) d (omega (arith, before)) (omega (arith, within))

  -- two lists, one behind the other
  pub pairs_append : (xs ys : List X) → AllPairs R xs → AllPairs R ys →
      All (λ x. All (R x) ys) xs → AllPairs R (xs ++ ys)
  pairs_append [] ys front back across = back
  pairs_append (x ∷ xs) ys front back across =
      pairs_cons x (xs ++ ys)
      (All-append (R x) xs ys (pairs_head x xs front)
      (All-head (λ y. All (R y) ys) x xs across))
      (pairs_append xs ys (pairs_tail x xs front) back (All-tail (λ y. All (R y) ys) x xs across))

-- under a map
pub pairs_map : {X Y : Type 0} (R : X → X → Type 0) (S : Y → Y → Type 0) (f : X → Y) →
    ((x y : X) → R x y → S (f x) (f y)) → (xs : List X) → AllPairs R xs → AllPairs S (map f xs)
pairs_map R S f means [] all = pairs_short S [] (omega arith)
pairs_map R S f means (x ∷ xs) all =
    pairs_cons S (f x) (map f xs)
    (All-map (S (f x)) f xs
    (All-weaker (R x) (λ y. S (f x) (f y)) (λ y h. means x y h) xs (pairs_head R x xs all)))
    (pairs_map R S f means xs (pairs_tail R x xs all))
