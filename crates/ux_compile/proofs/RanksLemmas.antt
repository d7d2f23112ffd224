-- Silent labels in front of the rest of a line.
use Rattle.std.proofs.Common.{arith, ◌≡◌, ℕ, zero, suc, ◌+◌, ◌-◌, ◌<◌, ◌≤◌, ◌⊎◌, inl, inr, List, [], ◌∷◌, ◌++◌, refl, sym, ◌∙◌, ap, length, length-drop, get_or, drop, Bool, true, false, cond}
use Rattle.std.specs.Prelude.{All, Option, None, Some, nat_eq, ◌&&◌, map}
use Rattle.std.specs.List.{range_with_len}
use Rattle.std.proofs.lemmas.Bool.{eqb-true, eq-eqb}
use Rattle.std.proofs.lemmas.List.{get_or_past}
use Rattle.std.proofs.lemmas.List.Sums.{prefix_len-drop_yes, prefix_len-drop_no}
use Rattle.ux_net.specs.declared.label.Label.{Label}
use Rattle.ux_net.specs.declared.label.Label.TheVariants.{Empty, Call}
use Rattle.ux_net.specs.declared.net_graph.Rank.{Rank}
use Rattle.ux_boxes.specs.declared.place.Place.{Place}
use Rattle.ux_admission.specs.Admission.{place_rank, is_place_free}
use Rattle.ux_compile.specs.Construct.{edge_labels, line_at, called_at, along_line, AreFit}
use Rattle.ux_boxes.specs.Places.{label_lines}
use Rattle.ux_net.specs.Silent.{is_silent, are_silent}
use Rattle.ux_compile.specs.Ranks.{silent_len, rest_rank, rest_free, call_rank, call_free, chain_rank, chain_free, chain_rank_at, chain_free_at}
use Rattle.ux_base.proofs.Lists.{less_or}
use Rattle.ux_compile.proofs.StatesLemmas.{line_called}

-- where some labels in front are silent, there is one less after the first
pub one_less : (labels : List Label) (k : ℕ) → k < length labels → 0 < silent_len (drop k labels) →
    silent_len (drop k labels) ≡ 1 + silent_len (drop (k + 1) labels)
one_less labels k lt some = go (is_silent (get_or labels k Empty)) refl
  where
    go : (b : Bool) → is_silent (get_or labels k Empty) ≡ b →
        silent_len (drop k labels) ≡ 1 + silent_len (drop (k + 1) labels)
    go true is = prefix_len-drop_yes is_silent labels k Empty lt is
    go false is =
        let none = prefix_len-drop_no is_silent labels k Empty lt is in absurd (omega arith)

-- the silent front of a silent line is the line
silent_whole : (labels : List Label) → are_silent labels ≡ true →
    silent_len labels ≡ length labels
silent_whole [] h = refl
silent_whole (x ∷ xs) h = go (is_silent x) h (λ later. silent_whole xs later)
  where
    go : (b : Bool) → (b && are_silent xs) ≡ true →
        (are_silent xs ≡ true → silent_len xs ≡ length xs) →
        cond b (1 + silent_len xs) 0 ≡ suc (length xs)
    go true h later = let r = later h in omega arith
    go false h later = cc

-- and a line that is its silent front is silent
whole_silent : (labels : List Label) → silent_len labels ≡ length labels →
    are_silent labels ≡ true
whole_silent [] h = refl
whole_silent (x ∷ xs) h = go (is_silent x) h (λ later. whole_silent xs later)
  where
    go : (b : Bool) → cond b (1 + silent_len xs) 0 ≡ suc (length xs) →
        (silent_len xs ≡ length xs → are_silent xs ≡ true) → (b && are_silent xs) ≡ true
    go true h later = later (omega arith)
    go false h later = absurd (omega arith)

-- the test that compares the two numbers
pub silent_test : (labels : List Label) →
    nat_eq (silent_len labels) (length labels) ≡ are_silent labels
silent_test labels = go (are_silent labels) refl (nat_eq (silent_len labels) (length labels)) refl
  where
    go : (b : Bool) → are_silent labels ≡ b → (t : Bool) →
        nat_eq (silent_len labels) (length labels) ≡ t → t ≡ b
    go true is true test = refl
    go false is false test = refl
    go true is false test =
        let e = eq-eqb (silent_len labels) (length labels) (silent_whole labels is) in cc
    go false is true test =
        let e = whole_silent labels (eqb-true (silent_len labels) (length labels) test) in cc

pub silent_from : (labels : List Label) (from front : ℕ) →
    front ≡ silent_len (drop from labels) →
    nat_eq front (length labels - from) ≡ are_silent (drop from labels)
silent_from labels from front is =
    ap (λ n. nat_eq n (length labels - from)) is
    ∙ (ap (nat_eq (silent_len (drop from labels))) (sym (length-drop from labels))
    ∙ silent_test (drop from labels))

-- What is added for line l of place b, in graph g of these places, is added along it.
module _ (ranks : List (List ℕ)) (free : List (List Bool)) (g : ℕ) (places : List Place)
    (b l : ℕ) where
  abbrev ranks_of : Option ℕ → List Label → ℕ → List Rank
  ranks_of called line rank =
      map (λ k. chain_rank ranks free called rank (drop (k + 1) (edge_labels called line)))
      (range_with_len 0 (length (edge_labels called line) - 1))

  abbrev frees_of : Option ℕ → List Label → Bool → List Bool
  frees_of called line mark =
      map (λ k. chain_free ranks free called mark (drop (k + 1) (edge_labels called line)))
      (range_with_len 0 (length (edge_labels called line) - 1))

  -- where nothing is called behind an output, for the labels that are drawn
  pub line_ranked : (labels : List Label) (rank : ℕ) (now new : List Rank) →
      called_at places b l ≡ None → labels ≡ line_at places b l → rank ≡ place_rank ranks g b →
      new ≡ now ++ map (λ k. rest_rank rank (drop (k + 1) labels))
      (range_with_len 0 (length labels - 1)) →
      new ≡ now ++ along_line places (chain_rank_at ranks free g places) b l
  line_ranked labels rank now new none same of_place is =
      is ∙ ap (λ (items : List Rank). now ++ items)
      (ap (ranks_of None labels) of_place
      ∙ (ap (λ (line : List Label). ranks_of None line (place_rank ranks g b)) same
      ∙ ap (λ (called : Option ℕ). ranks_of called (line_at places b l) (place_rank ranks g b))
      (sym none)))

  pub line_marked : (labels : List Label) (mark : Bool) (now new : List Bool) →
      called_at places b l ≡ None → labels ≡ line_at places b l → mark ≡ is_place_free free g b →
      new ≡ now ++ map (λ k. rest_free mark (drop (k + 1) labels))
      (range_with_len 0 (length labels - 1)) →
      new ≡ now ++ along_line places (chain_free_at ranks free g places) b l
  line_marked labels mark now new none same of_place is =
      is ∙ ap (λ (items : List Bool). now ++ items)
      (ap (frees_of None labels) of_place
      ∙ (ap (λ (line : List Label). frees_of None line (is_place_free free g b)) same
      ∙ ap (λ (called : Option ℕ). frees_of called (line_at places b l) (is_place_free free g b))
      (sym none)))

  -- where a graph is called behind an output, for the one chain state
  pub call_ranked : AreFit places → l < length (label_lines places b) → (h rank : ℕ)
      (now new : List Rank) → called_at places b l ≡ Some h → rank ≡ place_rank ranks g b →
      new ≡ now ++ call_rank ranks free h rank ∷ [] →
      new ≡ now ++ along_line places (chain_rank_at ranks free g places) b l
  call_ranked fit at h rank now new some of_place is =
      is ∙ ap (λ (items : List Rank). now ++ items)
      (ap (ranks_of (Some h) (Call h ∷ [])) of_place
      ∙ (ap (λ (line : List Label). ranks_of (Some h) line (place_rank ranks g b))
      (sym (line_called places fit b l h at some))
      ∙ ap (λ (called : Option ℕ). ranks_of called (line_at places b l) (place_rank ranks g b))
      (sym some)))

  pub call_marked : AreFit places → l < length (label_lines places b) → (h : ℕ) (mark : Bool)
      (now new : List Bool) → called_at places b l ≡ Some h → mark ≡ is_place_free free g b →
      new ≡ now ++ call_free ranks free h mark ∷ [] →
      new ≡ now ++ along_line places (chain_free_at ranks free g places) b l
  call_marked fit at h mark now new some of_place is =
      is ∙ ap (λ (items : List Bool). now ++ items)
      (ap (frees_of (Some h) (Call h ∷ [])) of_place
      ∙ (ap (λ (line : List Label). frees_of (Some h) line (is_place_free free g b))
      (sym (line_called places fit b l h at some))
      ∙ ap (λ (called : Option ℕ). frees_of called (line_at places b l) (is_place_free free g b))
      (sym some)))

-- the ranks of places are small where all ranks are
pub rank_small : (ranks : List (List ℕ)) (g n : ℕ) → All (All (λ rank. rank < 4294967296)) ranks →
    place_rank ranks g n < 4294967296
rank_small ranks zero n small = let e = get_or_past {X = ℕ} [] n 0 (omega arith) in omega (arith, e)
rank_small ranks (suc k) n small = go (less_or k (length ranks))
  where
    in_row : (row : List ℕ) → All (λ rank. rank < 4294967296) row → get_or row n 0 < 4294967296
    in_row row each = by (less_or n (length row))
      where
        by : (n < length row) ⊎ (length row ≤ n) → get_or row n 0 < 4294967296
        by (inl within) = each n 0 within
        by (inr past) = let e = get_or_past row n 0 past in omega (arith, e)

    go : (k < length ranks) ⊎ (length ranks ≤ k) → get_or (get_or ranks k []) n 0 < 4294967296
    go (inl within) = in_row (get_or ranks k []) (small k [] within)
    go (inr past) =
        let e = ap (λ (row : List ℕ). get_or row n 0) (get_or_past ranks k [] past) in
        omega (arith, e)
