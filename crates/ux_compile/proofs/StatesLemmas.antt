-- Where the states stand that are made of places, and that there are few enough to number them.
use Rattle.std.proofs.Common.{arith, ◌≡◌, ℕ, zero, suc, ◌+◌, ◌-◌, ◌<◌, ◌≤◌, List, [], ◌∷◌, refl, sym, ◌∙◌, ap, subst, inl, inr, length, length-append, get_or, Bool, true, false, cond}
use Rattle.std.specs.Prelude.{Option, Some, None, slice_get, Contains, sum_by, nat_eq}
use Rattle.std.specs.List.{range_with_len, flat_map}
use Rattle.std.proofs.lemmas.Option.{slice_get_within, slice_get-get_or}
use Rattle.std.proofs.lemmas.List.Elements.{Contains-get_or}
use Rattle.std.proofs.lemmas.List.FromFn.{length-map-range_with_len, get_or-map-range_with_len}
use Rattle.std.proofs.lemmas.List.Sums.{sum_by-cons}
use Rattle.ux_grf.specs.declared.item.Piece.{Piece}
use Rattle.ux_net.specs.declared.label.Label.{Label}
use Rattle.ux_net.specs.declared.label.Label.TheVariants.{Empty, Call}
use Rattle.ux_boxes.specs.declared.place.Place.{Place}
use Rattle.ux_boxes.specs.Places.{lines_in, output_in_place, label_lines, place_output, reached_in, is_reached}
use Rattle.ux_compile.specs.Construct.{labels_in, edge_labels, later_edges, place_size, has_state, number, line_at, called_at, labels_at, chain_len, chains_len, chain_start, first_chain, along_line, along_lines, at_place, by_state, table_of, AreFit}
use Rattle.ux_compile.proofs.EdgeLabelsLemmas.{no_fewer, call_whole}
use Rattle.ux_base.proofs.Lists.{less_or}
use Rattle.ux_base.proofs.JoinedLists.{get_left, get_right, get_mapped_range, get_joined, find_joined, length_joined, sum_more, sum_shorter}

-- sums over a list, and over the range of its indices
sum_same : (f g : ℕ → ℕ) → ((k : ℕ) → f k ≡ g k) → (ks : List ℕ) → sum_by f ks ≡ sum_by g ks
sum_same f g same [] = refl
sum_same f g same (k ∷ ks) =
    sum_by-cons f k ks ∙ (let r = sum_same f g same ks in let s = same k in omega arith)
    ∙ sym (sum_by-cons g k ks)

sum_shifted : (f : ℕ → ℕ) (a n : ℕ) →
    sum_by f (range_with_len (a + 1) n) ≡ sum_by (λ k. f (k + 1)) (range_with_len a n)
sum_shifted f a zero = refl
sum_shifted f a (suc n) =
    sum_by-cons f (a + 1) (range_with_len ((a + 1) + 1) n)
    ∙ (ap (λ s. f (a + 1) + s) (sum_shifted f (a + 1) n)
    ∙ sym (sum_by-cons (λ k. f (k + 1)) a (range_with_len (a + 1) n)))

sum_ranged : {A : Type 0} (g : Option A → ℕ) (xs : List A) →
    sum_by (λ k. g (slice_get xs k)) (range_with_len 0 (length xs)) ≡ sum_by (λ x. g (Some x)) xs
sum_ranged g [] = refl
sum_ranged g (x ∷ xs) =
    sum_by-cons (λ k. g (slice_get (x ∷ xs) k)) 0 (range_with_len (0 + 1) (length xs))
    ∙ (ap (λ s. g (Some x) + s) (sum_shifted (λ k. g (slice_get (x ∷ xs) k)) 0 (length xs)
    ∙ (sum_same (λ k. g (slice_get (x ∷ xs) (k + 1))) (λ k. g (slice_get xs k))
    (λ k. let e : k + 1 ≡ suc k = omega arith in ap (λ i. g (slice_get (x ∷ xs) i)) e)
    (range_with_len 0 (length xs)) ∙ sum_ranged g xs))
    ∙ sym (sum_by-cons (λ y. g (Some y)) x xs))

-- the edges of a line but the first
abbrev later_in : List Piece → Option (List Label) → ℕ
later_in output line = later_edges output (labels_in line)

abbrev chains_in : Option Place → ℕ
chains_in place = sum_by (later_edges (output_in_place place)) (lines_in place)

-- places and their chains weigh what their sizes say
places_weigh : (places : List Place) →
    length places + sum_by (λ (p : Place). chains_in (Some p)) places ≤ sum_by place_size places
places_weigh [] = omega arith
places_weigh (place ∷ places) =
    let r = places_weigh places in
    let a = sum_by-cons (λ (p : Place). chains_in (Some p)) place places in
    let b = sum_by-cons place_size place places in
    omega arith

count_one : (b : Bool) → cond b 1 0 ≤ 1
count_one true = omega arith
count_one false = omega arith

-- what is so counts one
counted : (b : Bool) → b ≡ true → ◌≡◌ {A = ℕ} (cond b 1 0) 1
counted true h = refl
counted false h = cc

reached_within : (places : List Place) (a : ℕ) (o : Option Place) → slice_get places a ≡ o →
    reached_in o ≡ true → a < length places
reached_within places a None is h = cc
reached_within places a (Some place) is h = slice_get_within places a place is

module _ (places : List Place) where
  -- the chains of a place, as its lines have them
  chains_sum : (b : ℕ) → chains_len places b ≡ chains_in (slice_get places b)
  chains_sum b = sum_ranged (later_in (place_output places b)) (label_lines places b)

  -- a place's number isn't above it
  pub number_below : (a : ℕ) → number places a ≤ a
  number_below zero = omega arith
  number_below (suc a) =
      let e : suc a ≡ a + 1 = omega arith in
      let m : number places (suc a) ≡ number places a + cond (has_state places a) 1 0 =
      ap (number places) e ∙ sum_more (λ n. cond (has_state places n) 1 0) a in
      let r = number_below a in
      let o = count_one (has_state places a) in
      omega arith

  -- how many states there are
  abbrev pub total : ℕ
  total = chain_start places (length places)

  total_weighs : length places + sum_by (chains_len places) (range_with_len 0 (length places))
      ≤ sum_by place_size places
  total_weighs =
      let w = places_weigh places in
      let e : sum_by (chains_len places) (range_with_len 0 (length places))
      ≡ sum_by (λ (p : Place). chains_in (Some p)) places =
      sum_same (chains_len places) (λ b. chains_in (slice_get places b)) chains_sum
      (range_with_len 0 (length places)) ∙ sum_ranged chains_in places in
      omega arith

  -- 32 bits number the states
  pub total_few : AreFit places → total < 4294967296
  total_few fit =
      let w = total_weighs in let n = number_below (length places) in let f = fit.few in omega arith

  -- and the places
  pub places_few : AreFit places → length places < 4294967296
  places_few fit = let w = total_weighs in let f = fit.few in omega arith

  -- the next numbers
  pub number_next : (a : ℕ) →
      number places (a + 1) ≡ number places a + cond (has_state places a) 1 0
  number_next a = sum_more (λ n. cond (has_state places n) 1 0) a

  -- and so the state of each place
  pub number_fits : AreFit places → (a : ℕ) → a < length places →
      number places a + cond (has_state places a) 1 0 < 4294967296
  number_fits fit a h =
      let below = number_below (a + 1) in
      let next = number_next a in
      let few = places_few fit in
      omega arith

  -- the chains of the next place begin behind those of this one
  pub start_next : (b : ℕ) → chain_start places (b + 1) ≡ chain_start places b + chains_len places b
  start_next b = let m = sum_more (chains_len places) b in omega arith

  -- and those of the next line
  pub chain_next : (b l : ℕ) →
      first_chain places b (l + 1) ≡ first_chain places b l + chain_len places b l
  chain_next b l = let m = sum_more (chain_len places b) l in omega arith

  -- the last line of a place ends where the next place begins
  pub chain_last : (b : ℕ) →
      first_chain places b (length (label_lines places b)) ≡ chain_start places (b + 1)
  chain_last b = sym (start_next b)

  -- chains begin among the states
  pub start_inside : (b : ℕ) → b ≤ length places → chain_start places b ≤ total
  start_inside b h = let s = sum_shorter (chains_len places) b (length places) h in omega arith

  -- the chain states of a line are among all states
  pub chain_inside : (b l : ℕ) → b < length places → l < length (label_lines places b) →
      first_chain places b l + chain_len places b l ≤ total
  chain_inside b l inside at =
      let s = sum_shorter (chain_len places b) (l + 1) (length (label_lines places b))
      (omega arith) in
      let n = chain_next b l in
      let m = start_next b in
      let t = start_inside (b + 1) (omega arith) in
      omega arith

  -- the chain states of a line have numbers
  pub chain_fits : AreFit places → (b l : ℕ) → b < length places →
      l < length (label_lines places b) →
      first_chain places b l + chain_len places b l < 4294967296
  chain_fits fit b l inside at =
      let i = chain_inside b l inside at in let t = total_few fit in omega arith

  -- a line that is there is a line of its place
  pub line_there : (b l : ℕ) → l < length (label_lines places b) →
      Contains (label_lines places b) (line_at places b l)
  line_there b l at =
      let found = slice_get-get_or (label_lines places b) l [] at in
      subst (λ line. Contains (label_lines places b) line) (ap labels_in (sym found))
      (Contains-get_or (label_lines places b) l [] at)

  -- a line has a label
  pub line_some : AreFit places → (b l : ℕ) → l < length (label_lines places b) →
      0 < length (labels_at places b l)
  line_some fit b l at =
      let some = (fit.lines b (line_at places b l) (line_there b l at)).some in
      let more = no_fewer (called_at places b l) (line_at places b l) in
      omega arith

  -- a line that calls a graph behind an output is that call alone, and has two edges
  pub line_called : AreFit places → (b l h : ℕ) → l < length (label_lines places b) →
      called_at places b l ≡ Some h → line_at places b l ≡ Call h ∷ []
  line_called fit b l h at is =
      call_whole (place_output places b) (line_at places b l) h
      (fit.lines b (line_at places b l) (line_there b l at)) is

  -- a line that calls a graph behind an output has two edges
  pub labels_called : AreFit places → (b l h : ℕ) → l < length (label_lines places b) →
      called_at places b l ≡ Some h → labels_at places b l ≡ Empty ∷ Call h ∷ []
  labels_called fit b l h at is =
      ap (λ (called : Option ℕ). edge_labels called (line_at places b l)) is
      ∙ ap (λ (line : List Label). Empty ∷ line) (line_called fit b l h at is)

  -- what a table of numbers has for a place
  pub table_within : (f : ℕ → ℕ) (table : List ℕ) (a : ℕ) → table ≡ table_of places f →
      a < length places → a < length table
  table_within f table a is h =
      let e = ap (length {A = ℕ}) is in
      let l = length-map-range_with_len f 0 (length places) in
      omega arith

  -- a table has at a place what the function gives
  pub table_at : (f : ℕ → ℕ) (table : List ℕ) (a : ℕ) → table ≡ table_of places f →
      a < length places → get_or table a 0 ≡ f a
  table_at f table a is h =
      ap (λ (t : List ℕ). get_or t a 0) is
      ∙ get_or-map-range_with_len f 0 (length places) a a 0 h (omega arith)

  -- a place with a state is there
  pub place_inside : (a : ℕ) → has_state places a ≡ true → a < length places
  place_inside a has = go (nat_eq a 1) has
    where
      go : (t : Bool) → cond t false (is_reached places a) ≡ true → a < length places
      go true h = cc
      go false h = reached_within places a (slice_get places a) refl h

  -- the number of a place that has a state is below their count
  pub number_inside : (a : ℕ) → has_state places a ≡ true →
      number places a < number places (length places)
  number_inside a has =
      let inside = place_inside a has in
      let s = sum_shorter (λ n. cond (has_state places n) 1 0) (a + 1) (length places)
      (omega arith) in
      let n = number_next a in
      let one = counted (has_state places a) has in
      omega arith

  module _ {A : Type 0} (of_place : ℕ → A) (of_chain : ℕ → ℕ → ℕ → A) where
    place_length : (a : ℕ) → length (at_place places of_place a) ≡ cond (has_state places a) 1 0
    place_length a = go (has_state places a)
      where
        go : (t : Bool) → length (cond t (of_place a ∷ []) []) ≡ cond t 1 0
        go true = refl
        go false = refl

    line_length : (b l : ℕ) → length (along_line places of_chain b l) ≡ chain_len places b l
    line_length b l = length-map-range_with_len (of_chain b l) 0 (chain_len places b l)

    lines_length : (b : ℕ) → length (along_lines places of_chain b) ≡ chains_len places b
    lines_length b =
        length_joined (along_line places of_chain b) (chain_len places b) (line_length b)
        (length (label_lines places b))

    abbrev of_places : List A
    of_places = flat_map (at_place places of_place) (range_with_len 0 (length places))

    abbrev of_chains : List A
    of_chains = flat_map (along_lines places of_chain) (range_with_len 0 (length places))

    places_length : length of_places ≡ number places (length places)
    places_length =
        length_joined (at_place places of_place) (λ a. cond (has_state places a) 1 0) place_length
        (length places)

    pub length_by_state : length (by_state places of_place of_chain) ≡ total
    length_by_state =
        let a = length-append of_places of_chains in
        let p = places_length in
        let c = length_joined (along_lines places of_chain) (chains_len places) lines_length
        (length places) in
        omega arith

    -- the item of a place's state
    pub get_place : (a : ℕ) → has_state places a ≡ true →
        slice_get (by_state places of_place of_chain) (number places a) ≡ Some (of_place a)
    get_place a has =
        let below = number_inside a has in
        let len = places_length in
        let none : number places a + 0 ≡ number places a = omega arith in
        let one : 0 < cond (has_state places a) 1 0 =
        let e = counted (has_state places a) has in omega arith in
        get_left of_places of_chains (number places a) (omega arith)
        ∙ (ap (slice_get of_places) (sym none)
        ∙ (get_joined (at_place places of_place) (λ n. cond (has_state places n) 1 0) place_length
        (length places) a 0 (place_inside a has) one
        ∙ ap (λ b. slice_get (cond b (of_place a ∷ []) []) 0) has))

    -- the item of a chain state
    pub get_chain : (b l k : ℕ) → b < length places → l < length (label_lines places b) →
        k < chain_len places b l →
        slice_get (by_state places of_place of_chain) (first_chain places b l + k)
        ≡ Some (of_chain b l k)
    get_chain b l k inside at lt =
        let before = sum_by (chain_len places b) (range_with_len 0 l) + k in
        let first : slice_get (along_lines places of_chain b) before ≡ Some (of_chain b l k) =
        get_joined (along_line places of_chain b) (chain_len places b) (line_length b)
        (length (label_lines places b)) l k at lt
        ∙ get_mapped_range (of_chain b l) (chain_len places b l) k lt in
        let in_place : before < chains_len places b =
        subst (λ n. before < n) (lines_length b)
        (slice_get_within (along_lines places of_chain b) before (of_chain b l k) first) in
        let index = sum_by (chains_len places) (range_with_len 0 b) + before in
        let second : slice_get of_chains index ≡ Some (of_chain b l k) =
        get_joined (along_lines places of_chain) (chains_len places) lines_length
        (length places) b before inside in_place ∙ first in
        let place : first_chain places b l + k ≡ length of_places + index =
        let e = places_length in omega arith in
        ap (slice_get (by_state places of_place of_chain)) place
        ∙ (get_right of_places of_chains index
        (slice_get_within of_chains index (of_chain b l k) second) ∙ second)

  -- a state is that of a place, or a chain state
  pub data Stands (n : ℕ) : Type 0 where
    of_a_place : (a : ℕ) → has_state places a ≡ true → n ≡ number places a → Stands n
    of_a_line : (b l k : ℕ) → b < length places → l < length (label_lines places b) →
        k < chain_len places b l → n ≡ first_chain places b l + k → Stands n

  nothing_at : ℕ → ℕ
  nothing_at a = 0

  nothing_along : ℕ → ℕ → ℕ → ℕ
  nothing_along b l k = 0

  -- each number is that of a state
  pub stands : (n : ℕ) → n < total → Stands n
  stands n h = elim (less_or n (number places (length places))) [
    | inl first ↦
        let len = places_length nothing_at nothing_along in
        let f = find_joined (at_place places nothing_at) (λ a. cond (has_state places a) 1 0)
        (place_length nothing_at nothing_along) (length places) n (omega arith) in
        let only = has_one (has_state places f.0) f.2 f.3 in
        of_a_place f.0 only.0 (let e = only.1 in let at = f.4 in omega arith)
    | inr later ↦
        let all = length_joined (along_lines places nothing_along) (chains_len places)
        (lines_length nothing_at nothing_along) (length places) in
        let f = find_joined (along_lines places nothing_along) (chains_len places)
        (lines_length nothing_at nothing_along) (length places)
        (n - number places (length places)) (omega arith) in
        let len = lines_length nothing_at nothing_along f.0 in
        let lt = f.3 in
        let g = find_joined (along_line places nothing_along f.0) (chain_len places f.0)
        (line_length nothing_at nothing_along f.0) (length (label_lines places f.0)) f.2
        (omega arith) in
        of_a_line f.0 g.0 g.2 f.1 g.1 g.3 (let a = f.4 in let b = g.4 in omega arith)
  ]
    where
      has_one : (b : Bool) (j : ℕ) → j < cond b 1 0 → (b ≡ true) × (j ≡ 0)
      has_one true j lt = (refl, omega arith)
      has_one false j lt = absurd (omega arith)
