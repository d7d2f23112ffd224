-- What is told of the contexts of a graph's places ascends, and is the first closer of each.
use Rattle.std.proofs.Common.{arith, ◌≡◌, ℕ, zero, suc, ◌+◌, ◌<◌, ◌≤◌, List, [], ◌∷◌, ◌++◌, refl, sym, ◌∙◌, ap, subst, length, get_or, append-nil, Bool, true, false, cond}
use Rattle.std.specs.Prelude.{Contains}
use Rattle.std.specs.List.{range_with_len, flat_map, list_any}
use Rattle.ux_net.specs.declared.net_graph.Closing.{Closing}
use Rattle.ux_boxes.specs.declared.place.Place.{Place}
use Rattle.ux_net.specs.Closings.{Ascend}
use Rattle.ux_compile.specs.Construct.{has_state, number, AreFit}
use Rattle.ux_admission.specs.ToldClosings.{is_refusing, is_refused, closing_from, closings_at, closings_of}
use Rattle.ux_admission.specs.Closers.{AreClosers}
use Rattle.ux_boxes.specs.Numbers.{AreOffsets}
use Rattle.ux_boxes.specs.Places.{label_lines, places_of}
use Rattle.ux_base.proofs.Lists.{contains_first}
use Rattle.ux_base.proofs.JoinedLists.{joined_more}
use Rattle.ux_compile.proofs.StatesLemmas.{number_next}
use Rattle.ux_net.proofs.ClosingsLemmas.{none_ascend, Below, wider, one_more}

module _ (places : List Place) (fit : AreFit places) (row : ℕ → List ℕ) where
  -- a place into which a context opens has a state
  pub refused_state : (b : ℕ) → is_refused places b ≡ true → has_state places b ≡ true
  refused_state b is = go (has_state places b) refl
    where
      go : (t : Bool) → has_state places b ≡ t → has_state places b ≡ true
      go true has = has
      go false none =
          let no : list_any is_refusing (label_lines places b) ≡ false =
          ap (list_any is_refusing) (fit.stateless b none) in
          absurd cc

  next : (n : ℕ) (entries : List Closing) → Below entries (number places n) →
      Below (entries ++ closings_at (number places) places row n) (number places (n + 1))
  next n entries b = go (is_refused places n) refl
    where
      rises : number places n ≤ number places (n + 1)
      rises = let e = number_next places n in omega (arith, e)

      same : Below (entries ++ []) (number places (n + 1))
      same = subst (λ (l : List Closing). Below l (number places (n + 1)))
          (sym (append-nil entries)) (wider entries (number places n) (number places (n + 1)) rises b)

      told : is_refused places n ≡ true → (list : List ℕ) →
          Below (entries ++ closing_from (number places) n list) (number places (n + 1))
      told is [] = same
      told is (c ∷ later) =
          let entry : Closing = record { opening = number places n; closing = number places c } in
          let e = number_next places n in
          let one = ap (λ (t : Bool). number places n + cond t 1 0) (refused_state n is) in
          wider (entries ++ entry ∷ []) (number places n + 1) (number places (n + 1))
          (omega (arith, e, one)) (one_more entries entry b)

      go : (t : Bool) → is_refused places n ≡ t →
          Below (entries ++ closings_at (number places) places row n) (number places (n + 1))
      go true is =
          subst (λ (t : Bool).
          Below (entries ++ cond t (closing_from (number places) n (row n)) []) (number places (n + 1)))
          (sym is) (told is (row n))
      go false is =
          subst (λ (t : Bool).
          Below (entries ++ cond t (closing_from (number places) n (row n)) []) (number places (n + 1)))
          (sym is) same

  so_far : (n : ℕ) →
      Below (flat_map (closings_at (number places) places row) (range_with_len 0 n)) (number places n)
  so_far zero = record { up = none_ascend; below = λ i lt. absurd (omega (arith, lt)) }
  so_far (suc n) =
      let e : n + 1 ≡ suc n = omega arith in
      subst (λ m. Below (flat_map (closings_at (number places) places row) (range_with_len 0 m)) (number places m)) e
      (subst (λ (l : List Closing). Below l (number places (n + 1)))
      (sym (joined_more (closings_at (number places) places row) n))
      (next n (flat_map (closings_at (number places) places row) (range_with_len 0 n)) (so_far n)))

  -- what is told of a graph ascends
  pub closings_ascend : Ascend (closings_of (number places) places row)
  closings_ascend = (so_far (length places)).up

-- the rows of the places of a graph have places of it
pub rows_inside : (graphs : List (List Place)) (offsets : List ℕ) (rows : List (List ℕ)) →
    AreOffsets graphs offsets → AreClosers graphs rows → (k : ℕ) (here : List Place) →
    k < length graphs → here ≡ places_of graphs (suc k) → AreFit here → (b c : ℕ) →
    b < length here → Contains (get_or rows (get_or offsets k 0 + b) []) c → c < length here
rows_inside graphs offsets rows are closing k here within same fit b c lt there =
    let fit' : AreFit (places_of graphs (suc k)) = subst AreFit same fit in
    let len = ap (λ (l : List Place). length l) same in
    let at = are.offset k (omega (arith, within)) in
    let into = (closing.row (suc k) b c (omega (arith, lt, len))).0
    (subst (λ n. Contains (get_or rows (n + b) []) c) at there) in
    let inside = subst (λ n. n < length (places_of graphs (suc k))) into.1.after
    (fit'.targets into.1.step.from into.1.step.to into.1.inside.leads) in
    omega (arith, inside, len)

-- lists that are the same for each number below a bound are the same joined
joined_same : {A : Type 0} (f g : ℕ → List A) (n : ℕ) → ((k : ℕ) → k < n → f k ≡ g k) →
    flat_map f (range_with_len 0 n) ≡ flat_map g (range_with_len 0 n)
joined_same f g zero same = refl
joined_same f g (suc n) same =
    let e : n + 1 ≡ suc n = omega arith in
    subst (λ m. flat_map f (range_with_len 0 m) ≡ flat_map g (range_with_len 0 m)) e
    (joined_more f n
    ∙ (ap (λ l. l ++ f n) (joined_same f g n (λ k lt. same k (omega (arith, lt))))
    ∙ (ap (λ l. flat_map g (range_with_len 0 n) ++ l) (same n (omega arith))
    ∙ sym (joined_more g n))))

-- places that have the same numbers tell the same
pub same_closings : (f g : ℕ → ℕ) (places : List Place) (row : ℕ → List ℕ) →
    ((a : ℕ) → a < length places → f a ≡ g a) →
    ((b c : ℕ) → b < length places → Contains (row b) c → c < length places) →
    closings_of f places row ≡ closings_of g places row
same_closings f g places row same inside =
    joined_same (closings_at f places row) (closings_at g places row) (length places) (λ b lt.
    ap (λ (l : List Closing). cond (is_refused places b) l []) (from b lt (row b) (inside b)))
  where
    from : (b : ℕ) → b < length places → (list : List ℕ) →
        ((c : ℕ) → b < length places → Contains list c → c < length places) →
        closing_from f b list ≡ closing_from g b list
    from b lt [] into = refl
    from b lt (c ∷ later) into =
        let entry : (n m : ℕ) → Closing = λ n m. record { opening = n; closing = m } in
        ap (λ n. entry n (f c) ∷ []) (same b lt)
        ∙ ap (λ n. entry (g b) n ∷ []) (same c (into c lt (contains_first c later)))
