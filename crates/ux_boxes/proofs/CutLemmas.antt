-- Rows that are cut from a list have what stands there at the numbers of the places.
use Rattle.std.proofs.Common.{arith, ◌≡◌, ℕ, zero, suc, ◌+◌, ◌<◌, ◌≤◌, List, [], ◌∷◌, ◌++◌, length, refl, ap, sym, ◌∙◌, get_or, take, drop, inl, inr}
use Rattle.std.proofs.lemmas.List.{get_or_default, drop-drop, get_or-take, get_or-drop, get_or_past, length-take, length-drop}
use Rattle.ux_base.proofs.Lists.{less_or}
use Rattle.ux_boxes.specs.declared.place.Place.{Place}
use Rattle.ux_boxes.specs.Places.{places_of}
use Rattle.ux_boxes.specs.Numbers.{places_before, number_of, all_places}
use Rattle.ux_boxes.specs.Rows.{cut}
use Rattle.ux_boxes.proofs.NumbersLemmas.{before_next, before_rises}

-- one more row
pub cut_more : {A : Type 0} (graphs : List (List Place)) (items : List A) (k : ℕ) →
    k < length graphs →
    cut (take (k + 1) graphs) items ≡ cut (take k graphs) items
    ++ take (length (get_or graphs k [])) (drop (places_before graphs (suc k)) items) ∷ []
cut_more [] items k h = absurd (omega (arith, h))
cut_more (places ∷ graphs) items zero h = refl
cut_more {A} (places ∷ graphs) items (suc k) h =
    let n : suc k + 1 ≡ suc (k + 1) = omega arith in
    let r = cut_more graphs (drop (length places) items) k (omega arith) in
    let d = drop-drop (places_before graphs (suc k)) (length places) items in
    ap (λ m. cut (take m (places ∷ graphs)) items) n
    ∙ ap (λ (rows : List (List A)). take (length places) items ∷ rows)
    (r ∙ ap (λ (xs : List A). cut (take k graphs) (drop (length places) items)
    ++ take (length (get_or graphs k [])) xs ∷ []) d)

-- there is a row for each graph
pub length-cut : {A : Type 0} (graphs : List (List Place)) (items : List A) →
    length (cut graphs items) ≡ length graphs
length-cut [] items = refl
length-cut (places ∷ graphs) items = ap suc (length-cut graphs (drop (length places) items))

-- the row of a graph
pub cut_at : {A : Type 0} (graphs : List (List Place)) (items : List A) (k : ℕ) →
    get_or (cut graphs items) k [] ≡
    take (length (places_of graphs (suc k))) (drop (places_before graphs (suc k)) items)
cut_at [] items k = refl
cut_at (places ∷ graphs) items zero = refl
cut_at (places ∷ graphs) items (suc k) =
    cut_at graphs (drop (length places) items) k
    ∙ ap (λ xs. take (length (places_of graphs (suc k))) xs)
    (drop-drop (places_before graphs (suc k)) (length places) items)

-- the entry of a place
pub entry_is : {A : Type 0} (graphs : List (List Place)) (items : List A) (k n : ℕ) (d : A) →
    n < length (places_of graphs (suc k)) →
    get_or (get_or (cut graphs items) k []) n d ≡ get_or items (number_of graphs (suc k) n) d
entry_is {A} graphs items k n d h =
    ap (λ (row : List A). get_or row n d) (cut_at graphs items k)
    ∙ (get_or-take (length (places_of graphs (suc k))) (drop (places_before graphs (suc k)) items)
    n d h ∙ get_or-drop (places_before graphs (suc k)) items n d)

-- no entry is above what all are below
pub entry_below : (graphs : List (List Place)) (items : List ℕ) (most : ℕ) →
    ((u : ℕ) → get_or items u 0 ≤ most) → (k n : ℕ) →
    get_or (get_or (cut graphs items) k []) n 0 ≤ most
entry_below graphs items most all k n =
    let len = length (places_of graphs (suc k)) in
    let before = places_before graphs (suc k) in
    elim (less_or n len) [
      | inl l ↦
          let e = entry_is graphs items k n 0 l in
          let a = all (number_of graphs (suc k) n) in
          omega arith
      | inr p ↦
          let e = ap (λ (row : List ℕ). get_or row n 0) (cut_at graphs items k) in
          let short = length-take len (drop before items) in
          let past = get_or_past (take len (drop before items)) n 0 (omega arith) in
          omega arith
    ]

-- a row has an entry for each place
pub row_length : {A : Type 0} (graphs : List (List Place)) (items : List A) (k : ℕ) →
    places_before graphs (suc k) + length (places_of graphs (suc k)) ≤ length items →
    length (get_or (cut graphs items) k []) ≡ length (places_of graphs (suc k))
row_length {A} graphs items k fits =
    let e = ap (λ (row : List A). length row) (cut_at graphs items k) in
    let t = length-take (length (places_of graphs (suc k)))
    (drop (places_before graphs (suc k)) items) in
    let d = length-drop (places_before graphs (suc k)) items in
    omega arith

-- the places of one more graph are left
pub split_fits : {A : Type 0} (graphs : List (List Place)) (items rest : List A) (k : ℕ)
    (places : List Place) → length items ≡ all_places graphs → k < length graphs →
    places ≡ get_or graphs k [] → rest ≡ drop (places_before graphs (suc k)) items →
    length places ≤ length rest
split_fits {A} graphs items rest k places whole h e is =
    let d = ap (λ (xs : List A). length xs) is ∙ length-drop (places_before graphs (suc k)) items in
    let next = before_next graphs k places h (e ∙ get_or_default graphs k [] places h) in
    let n : k + 1 ≡ suc k = omega arith in
    let most : places_before graphs (suc (k + 1)) ≤ all_places graphs =
    rw n (before_rises graphs (suc k) (length graphs) h) in
    omega arith

-- what is left after one row more
pub rest_next : {A : Type 0} (graphs : List (List Place)) (items rest after : List A) (k : ℕ)
    (places : List Place) → k < length graphs → places ≡ get_or graphs k [] →
    rest ≡ drop (places_before graphs (suc k)) items → after ≡ drop (length places) rest →
    after ≡ drop (places_before graphs (suc (k + 1))) items
rest_next {A} graphs items rest after k places h e is cut_off =
    let next = before_next graphs k places h (e ∙ get_or_default graphs k [] places h) in
    cut_off ∙ (ap (λ (xs : List A). drop (length places) xs) is
    ∙ (drop-drop (length places) (places_before graphs (suc k)) items
    ∙ ap (λ n. drop n items) (sym next)))

-- one more row is cut
pub rows_next : {A : Type 0} (graphs : List (List Place)) (items rest row : List A)
    (before after : List (List A)) (k : ℕ) (places : List Place) → k < length graphs →
    places ≡ get_or graphs k [] → rest ≡ drop (places_before graphs (suc k)) items →
    row ≡ take (length places) rest → before ≡ cut (take k graphs) items →
    after ≡ before ++ row ∷ [] → after ≡ cut (take (k + 1) graphs) items
rows_next {A} graphs items rest row before after k places h e is r b a =
    a ∙ (ap (λ (rows : List (List A)). rows ++ row ∷ []) b
    ∙ (ap (λ (xs : List A). cut (take k graphs) items ++ xs ∷ [])
    (r ∙ (ap (λ (ps : List Place). take (length ps) rest) e
    ∙ ap (λ (xs : List A). take (length (get_or graphs k [])) xs) is))
    ∙ sym (cut_more graphs items k h)))
