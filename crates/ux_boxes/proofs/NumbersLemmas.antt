-- Different places have different numbers, and each is below the number of all places.
use Rattle.std.proofs.Common.{arith, ◌≡◌, ℕ, zero, suc, ◌+◌, ◌<◌, ◌≤◌, List, [], ◌∷◌, ◌++◌, length, get_or, inl, inr, refl, ap, subst, sym, ◌∙◌}
use Rattle.std.specs.Prelude.{All}
use Rattle.std.proofs.lemmas.List.Elements.{All-head, All-tail}
use Rattle.std.proofs.lemmas.List.{get_or_append_left, get_or_push}
use Rattle.ux_base.proofs.Lists.{less_or}
use Rattle.ux_boxes.specs.declared.place.Place.{Place}
use Rattle.ux_boxes.specs.Places.{places_of}
use Rattle.ux_boxes.specs.Numbers.{places_before, number_of, all_places, AreOffsets}

-- a graph that has a place is there
pub graph_inside : (graphs : List (List Place)) (g n : ℕ) → n < length (places_of graphs g) →
    (1 ≤ g) × (g ≤ length graphs)
graph_inside graphs zero n h = absurd (omega (arith, h))
graph_inside [] (suc g) n h = absurd (omega (arith, h))
graph_inside (places ∷ graphs) (suc zero) n h = (omega arith, omega arith)
graph_inside (places ∷ graphs) (suc (suc g)) n h =
    let i = graph_inside graphs (suc g) n h in
    let j = i.1 in
    (omega arith, omega arith)

-- what holds of each graph holds of the one of a number
pub graph_so : (P : List Place → Type 0) (graphs : List (List Place)) → All P graphs → (g n : ℕ) →
    n < length (places_of graphs g) → P (places_of graphs g)
graph_so P graphs all zero n h = absurd (omega (arith, h))
graph_so P [] all (suc g) n h = absurd (omega (arith, h))
graph_so P (places ∷ graphs) all (suc zero) n h = All-head P places graphs all
graph_so P (places ∷ graphs) all (suc (suc g)) n h =
    graph_so P graphs (All-tail P places graphs all) (suc g) n h

-- the same for the number of a graph that is there
pub graph_so_at : (P : List Place → Type 0) (graphs : List (List Place)) → All P graphs → (g : ℕ) →
    1 ≤ g → g ≤ length graphs → P (places_of graphs g)
graph_so_at P graphs all zero from to = absurd (omega (arith, from))
graph_so_at P [] all (suc g) from to = absurd (omega (arith, to))
graph_so_at P (places ∷ graphs) all (suc zero) from to = All-head P places graphs all
graph_so_at P (places ∷ graphs) all (suc (suc g)) from to =
    graph_so_at P graphs (All-tail P places graphs all) (suc g) (omega arith) (omega (arith, to))

numbers_apart : (graphs : List (List Place)) (g h a b : ℕ) →
    a < length (places_of graphs (suc g)) → b < length (places_of graphs (suc h)) →
    number_of graphs (suc g) a ≡ number_of graphs (suc h) b → (g ≡ h) × (a ≡ b)
numbers_apart [] g h a b i j e = absurd (omega (arith, i))
numbers_apart (places ∷ graphs) zero zero a b i j e = (refl, omega arith)
numbers_apart (places ∷ graphs) zero (suc h) a b i j e = absurd (omega arith)
numbers_apart (places ∷ graphs) (suc g) zero a b i j e = absurd (omega arith)
numbers_apart (places ∷ graphs) (suc g) (suc h) a b i j e =
    let r = numbers_apart graphs g h a b i j (omega arith) in
    (ap suc r.0, r.1)

-- places of one number are one
pub same_place : (graphs : List (List Place)) (g h a b : ℕ) → a < length (places_of graphs g) →
    b < length (places_of graphs h) → number_of graphs g a ≡ number_of graphs h b →
    (g ≡ h) × (a ≡ b)
same_place graphs zero h a b i j e = absurd (omega (arith, i))
same_place graphs (suc g) zero a b i j e = absurd (omega (arith, j))
same_place graphs (suc g) (suc h) a b i j e =
    let r = numbers_apart graphs g h a b i j e in (ap suc r.0, r.1)

-- what holds of a place holds of the one of the same number
pub place_so : (graphs : List (List Place)) (P : (g a : ℕ) → Type 0) (g h a b : ℕ) →
    a < length (places_of graphs g) → b < length (places_of graphs h) →
    number_of graphs g a ≡ number_of graphs h b → P h b → P g a
place_so graphs P g h a b i j e p =
    let same = same_place graphs g h a b i j e in
    subst (λ k. P k a) (sym same.0) (subst (λ n. P h n) (sym same.1) p)

-- the places of one more graph
pub before_more : (graphs : List (List Place)) (g : ℕ) →
    places_before graphs (suc (suc g)) ≡
    places_before graphs (suc g) + length (places_of graphs (suc g))
before_more [] g = refl
before_more (places ∷ []) zero = omega arith
before_more (places ∷ (more ∷ graphs)) zero = omega arith
before_more (places ∷ graphs) (suc g) =
    let r = before_more graphs g in omega arith

-- no fewer places stand before a later graph
pub before_rises : (graphs : List (List Place)) (g h : ℕ) → g ≤ h →
    places_before graphs (suc g) ≤ places_before graphs (suc h)
before_rises [] g h l = omega arith
before_rises (places ∷ graphs) zero h l = omega arith
before_rises (places ∷ graphs) (suc g) zero l = absurd (omega (arith, l))
before_rises (places ∷ graphs) (suc g) (suc h) l =
    let r = before_rises graphs g h (omega arith) in omega arith

-- the places of a graph stand before those of all graphs
pub number_below : (graphs : List (List Place)) (g n : ℕ) → n < length (places_of graphs g) →
    number_of graphs g n < all_places graphs
number_below graphs zero n h = absurd (omega (arith, h))
number_below graphs (suc g) n h =
    let i = graph_inside graphs (suc g) n h in
    let least = before_rises graphs (suc g) (length graphs) i.1 in
    let e = before_more graphs g in
    omega arith

-- the graph that stands at a place of the list is the one of the number after it
pub places_at : (graphs : List (List Place)) (k : ℕ) (d : List Place) → k < length graphs →
    places_of graphs (suc k) ≡ get_or graphs k d
places_at [] k d h = absurd (omega (arith, h))
places_at (places ∷ graphs) zero d h = refl
places_at (places ∷ graphs) (suc k) d h = places_at graphs k d (omega arith)

-- what stands before one more graph
pub before_next : (graphs : List (List Place)) (k : ℕ) (places : List Place) → k < length graphs →
    places ≡ get_or graphs k places →
    places_before graphs (suc (k + 1)) ≡ places_before graphs (suc k) + length places
before_next graphs k places h e =
    let n : k + 1 ≡ suc k = omega arith in
    rw n (before_more graphs k
    ∙ ap (λ (ps : List Place). places_before graphs (suc k) + length ps)
    (places_at graphs k places h ∙ sym e))

-- the table with one more entry
pub offset_more : (graphs : List (List Place)) (offsets : List ℕ) (k total : ℕ) →
    length offsets ≡ k + 1 → total ≡ places_before graphs (suc (k + 1)) →
    ((j : ℕ) → j ≤ k → get_or offsets j 0 ≡ places_before graphs (suc j)) →
    (j : ℕ) → j ≤ k + 1 → get_or (offsets ++ total ∷ []) j 0 ≡ places_before graphs (suc j)
offset_more graphs offsets k total len is before j l = elim (less_or j (k + 1)) [
  | inl a ↦ get_or_append_left offsets (total ∷ []) 0 j (omega arith) ∙ before j (omega arith)
  | inr b ↦
      let e : j ≡ k + 1 = omega arith in
      rw e (get_or_push offsets total 0 (k + 1) len ∙ is)
]

-- the numbers of the places of a graph can be counted
pub offset_room : (graphs : List (List Place)) (offsets : List ℕ) → AreOffsets graphs offsets →
    (k : ℕ) (places : List Place) → k < length graphs → places ≡ get_or graphs k [] →
    get_or offsets k 0 + length places < 18446744073709551616
offset_room graphs offsets are k places h e =
    let at = are.offset k (omega arith) in
    let few = are.few in
    let next = before_more graphs k in
    let same = ap (λ (ps : List Place). length ps) (e ∙ sym (places_at graphs k [] h)) in
    let most = before_rises graphs (suc k) (length graphs) h in
    omega arith
