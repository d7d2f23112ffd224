-- How ranks and marks fall along one line, from label to label, and where its edges lead.
use Rattle.std.proofs.Common.{arith, ◌≡◌, ℕ, zero, suc, ◌+◌, ◌-◌, ◌*◌, ◌<◌, ◌≤◌, List, [], ◌∷◌, refl, sym, ◌∙◌, ap, ◌⊎◌, inl, inr, length, get_or, drop, drop-cons, Bool, true, false, cond, add-one}
use Rattle.std.specs.Prelude.{Option, Some, None, slice_get, max, sum_by, ◌&&◌}
use Rattle.std.proofs.Math.Nat.{mul-le-mul_right, max-le}
use Rattle.std.proofs.lemmas.Option.{same_Some, slice_get_within}
use Rattle.std.proofs.lemmas.List.Elements.{All-contains, Contains-get_or}
use Rattle.std.proofs.lemmas.List.Sums.{sum_by-cons}
use Rattle.ux_net.specs.declared.label.Label.{Label}
use Rattle.ux_net.specs.declared.label.Label.TheVariants.{Empty, Call}
use Rattle.ux_boxes.specs.declared.place.Place.{Place}
use Rattle.ux_net.specs.declared.net_graph.Rank.{Rank}
use Rattle.ux_boxes.specs.Places.{label_lines}
use Rattle.ux_net.specs.Measured.{weigh}
use Rattle.ux_boxes.specs.Fit.{is_call, IsLine}
use Rattle.ux_compile.specs.Construct.{edge_labels, number, line_at, called_at, labels_at, first_chain, target_of, AreFit}
use Rattle.ux_net.specs.Silent.{is_silent, are_silent}
use Rattle.ux_admission.specs.Admission.{place_rank, is_place_free}
use Rattle.ux_compile.specs.Ranks.{silent_len, rest_rank, rest_free, above, chain_rank, chain_free, chain_rank_at, chain_free_at, state_ranks, state_frees}
use Rattle.ux_base.proofs.Lists.{less_or, drop_whole}
use Rattle.ux_compile.proofs.StatesLemmas.{line_there, place_inside, get_place, get_chain}
use Rattle.ux_compile.proofs.ConstructLaw.{lt_then, lt_else, has_line}

-- an element's number is at most the sum of all
pub sum_has : {A : Type 0} (f : A → ℕ) (xs : List A) (i : ℕ) (x : A) → slice_get xs i ≡ Some x →
    f x ≤ sum_by f xs
sum_has f [] i x found = absurd (let w = slice_get_within [] i x found in omega arith)
sum_has f (y ∷ ys) zero x found =
    let e = same_Some y x found in
    let s = sum_by-cons f y ys in
    let same = ap f e in
    omega arith
sum_has f (y ∷ ys) (suc i) x found =
    let r = sum_has f ys i x found in let s = sum_by-cons f y ys in omega arith

-- lower by the major number, or else by the minor one
abbrev pub IsLowerRank : Rank → Rank → Type 0
IsLowerRank low high =
    (low.major < high.major) ⊎ ((low.major ≡ high.major) × (low.minor < high.minor))

-- such a fall is a fall of the weights
pub lower_weighs : (width : ℕ) (low high : Rank) → low.minor ≤ width → IsLowerRank low high →
    weigh width low < weigh width high
lower_weighs width low high small h = elim h [
  | inl major ↦
      let m : (low.major + 1) * (width + 1) ≤ high.major * (width + 1) =
      mul-le-mul_right (width + 1) (omega arith) in
      let e : (low.major + 1) * (width + 1) ≡ low.major * (width + 1) + (width + 1) =
      one_more low.major (width + 1) in
      omega arith
  | inr same ↦
      let e = ap (λ m. m * (width + 1)) same.0 in
      let lt = same.1 in
      omega arith
]
  where
    one_more : (a b : ℕ) → (a + 1) * b ≡ a * b + b
    one_more a b = grind arith

-- silent labels in front of one more
pub silent_more : (label : Label) (rest : List Label) (rank : ℕ) → is_silent label ≡ true →
    IsLowerRank (rest_rank rank rest) (rest_rank rank (label ∷ rest))
silent_more label rest rank is =
    let m : silent_len (label ∷ rest) ≡ 1 + silent_len rest =
    ap (λ b. cond b (1 + silent_len rest) 0) is in
    let s : are_silent (label ∷ rest) ≡ are_silent rest = ap (λ b. b && are_silent rest) is in
    inr (ap (λ b. cond b (rank + 1) 0) (sym s), omega arith)

-- one silent label more before a free rest
pub free_more : (label : Label) (rest : List Label) (free : Bool) → is_silent label ≡ true →
    rest_free free rest ≡ true → rest_free free (label ∷ rest) ≡ true
free_more label rest free is h =
    let s : are_silent (label ∷ rest) ≡ are_silent rest = ap (λ b. b && are_silent rest) is in
    ap (λ b. cond b free false) s ∙ h

-- a step into the rest of a line from a place above
pub rest_lower : (rest : List Label) (to from : ℕ) → (are_silent rest ≡ true → to < from) →
    IsLowerRank (rest_rank to rest) (above from)
rest_lower rest to from lower = go (are_silent rest) refl
  where
    go : (b : Bool) → are_silent rest ≡ b → IsLowerRank (rest_rank to rest) (above from)
    go true is =
        let l = lower is in
        let e : cond (are_silent rest) (to + 1) 0 ≡ to + 1 = ap (λ b. cond b (to + 1) 0) is in
        inl (omega arith)
    go false is =
        let e : cond (are_silent rest) (to + 1) 0 ≡ 0 = ap (λ b. cond b (to + 1) 0) is in
        inl (omega arith)

-- a free rest is silent, and stands before a free place
pub rest_marked : (rest : List Label) (free : Bool) → rest_free free rest ≡ true →
    (are_silent rest ≡ true) × (free ≡ true)
rest_marked rest free h = go (are_silent rest) refl h
  where
    go : (b : Bool) → are_silent rest ≡ b → cond b free false ≡ true →
        (are_silent rest ≡ true) × (free ≡ true)
    go true is h = (is, h)
    go false is h = cc

-- the state of a place is below one that is no lower and has a minor number
pub beneath : (rank : ℕ) (high : Rank) → rank + 1 ≤ high.major → 0 < high.minor →
    IsLowerRank (above rank) high
beneath rank high le some = elim (less_or (rank + 1) high.major) [
  | inl less ↦ inl less
  | inr same ↦ inr (omega arith, some)
]

-- what a call needs is below, where its graph is, and where that is marked the place
pub call_below : (start rank from : ℕ) (free : Bool) → start < from → (free ≡ true → rank < from) →
    max start (cond free rank 0) < from
call_below start rank from free less behind =
    let most = max-le {a = start} {b = cond free rank 0} {k = from - 1} (omega arith)
    (place_below free behind) in
    omega arith
  where
    place_below : (b : Bool) → (b ≡ true → rank < from) → cond b rank 0 ≤ from - 1
    place_below true behind = let lt = behind refl in omega arith
    place_below false behind = omega arith

-- a choice that is true of both
pub both_marked : (a b : Bool) → cond a b false ≡ true → (a ≡ true) × (b ≡ true)
both_marked true b h = (refl, h)
both_marked false b h = cc

-- a line from one of its labels on
pub line_from : (line : List Label) (k : ℕ) → k < length line →
    drop k line ≡ get_or line k Empty ∷ drop (k + 1) line
line_from line k lt = let e = add-one k in rw e (drop-cons line k Empty lt)

-- the ranks and marks where the edges of one graph lead
module _ (places : List Place) (fit : AreFit places) where
  -- a line that calls nothing behind an output has the edges that are drawn
  pub as_drawn : (b l : ℕ) → called_at places b l ≡ None → labels_at places b l ≡ line_at places b l
  as_drawn b l none = ap (λ (called : Option ℕ). edge_labels called (line_at places b l)) none

  module _ (ranks : List (List ℕ)) (free : List (List Bool)) (g : ℕ) where
    pub rank_after : (b l k : ℕ) → l < length (label_lines places b) →
        k < length (labels_at places b l) → called_at places b l ≡ None →
        slice_get (state_ranks ranks free g places) (target_of places b l k)
        ≡ Some (rest_rank (place_rank ranks g b) (drop (k + 1) (labels_at places b l)))
    rank_after b l k at lt none = elim (less_or (k + 1) (length (labels_at places b l))) [
      | inl more ↦
          ap (slice_get (state_ranks ranks free g places))
          (lt_then (k + 1) (length (labels_at places b l))
          (first_chain places b l + k) (number places b) more)
          ∙ (get_chain places (λ a. above (place_rank ranks g a))
          (chain_rank_at ranks free g places) b l k
          (place_inside places b (has_line places fit b l at)) at (omega arith)
          ∙ ap (λ (called : Option ℕ). Some (chain_rank ranks free called (place_rank ranks g b)
          (drop (k + 1) (labels_at places b l)))) none)
      | inr last ↦
          ap (slice_get (state_ranks ranks free g places))
          (lt_else (k + 1) (length (labels_at places b l))
          (first_chain places b l + k) (number places b) last)
          ∙ (get_place places (λ a. above (place_rank ranks g a))
          (chain_rank_at ranks free g places) b (has_line places fit b l at)
          ∙ ap (λ (rest : List Label). Some (rest_rank (place_rank ranks g b) rest))
          (sym (drop_whole (labels_at places b l) (k + 1) last)))
    ]

    pub free_after : (b l k : ℕ) → l < length (label_lines places b) →
        k < length (labels_at places b l) → called_at places b l ≡ None →
        slice_get (state_frees ranks free g places) (target_of places b l k)
        ≡ Some (rest_free (is_place_free free g b) (drop (k + 1) (labels_at places b l)))
    free_after b l k at lt none = elim (less_or (k + 1) (length (labels_at places b l))) [
      | inl more ↦
          ap (slice_get (state_frees ranks free g places))
          (lt_then (k + 1) (length (labels_at places b l))
          (first_chain places b l + k) (number places b) more)
          ∙ (get_chain places (is_place_free free g) (chain_free_at ranks free g places) b l k
          (place_inside places b (has_line places fit b l at)) at (omega arith)
          ∙ ap (λ (called : Option ℕ). Some (chain_free ranks free called (is_place_free free g b)
          (drop (k + 1) (labels_at places b l)))) none)
      | inr last ↦
          ap (slice_get (state_frees ranks free g places))
          (lt_else (k + 1) (length (labels_at places b l))
          (first_chain places b l + k) (number places b) last)
          ∙ (get_place places (is_place_free free g) (chain_free_at ranks free g places) b
          (has_line places fit b l at)
          ∙ ap (λ (rest : List Label). Some (rest_free (is_place_free free g b) rest))
          (sym (drop_whole (labels_at places b l) (k + 1) last)))
    ]

  -- a call is alone on its line
  pub alone : (b l k h : ℕ) → l < length (label_lines places b) → k < length (line_at places b l) →
      get_or (line_at places b l) k Empty ≡ Call h →
      (k ≡ 0) × (line_at places b l ≡ Call h ∷ [])
  alone b l k h at lt is =
      go (line_at places b l) k
      (fit.lines b (line_at places b l) (line_there places b l at)) lt is
    where
      go : (line : List Label) (k : ℕ) → IsLine line → k < length line →
          get_or line k Empty ≡ Call h → (k ≡ 0) × (line ≡ Call h ∷ [])
      go [] k line lt is = absurd (omega arith)
      go (x ∷ []) zero line lt is = (refl, ap (λ (y : Label). y ∷ []) is)
      go (x ∷ []) (suc k) line lt is = absurd (omega arith)
      go (x ∷ y ∷ ys) k line lt is =
          let no = All-contains (λ (label : Label). is_call label ≡ false) (x ∷ y ∷ ys)
          (get_or (x ∷ y ∷ ys) k Empty) (line.lone (omega arith))
          (Contains-get_or (x ∷ y ∷ ys) k Empty lt) in
          let yes : is_call (get_or (x ∷ y ∷ ys) k Empty) ≡ true = ap is_call is in
          cc
