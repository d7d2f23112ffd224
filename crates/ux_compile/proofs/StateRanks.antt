-- The rank and the mark of each state of a net that is built of places which have ranks.
use Rattle.std.proofs.Common.{arith, ◌≡◌, ℕ, zero, suc, ◌+◌, ◌<◌, ◌≤◌, List, [], refl, ◌∙◌, ap, length, get_or, drop, Bool, true, false, cond}
use Rattle.std.specs.Prelude.{Option, Some, None, slice_get, sum_by}
use Rattle.std.proofs.lemmas.Option.{slice_get_within, get_or_from_slice_get, slice_get-get_or}
use Rattle.ux_net.specs.declared.label.Label.{Label}
use Rattle.ux_boxes.specs.declared.place.Place.{Place}
use Rattle.ux_net.specs.declared.net_graph.NetGraph.{NetGraph}
use Rattle.ux_net.specs.declared.net_graph.Rank.{Rank}
use Rattle.ux_boxes.specs.Places.{label_lines, places_of}
use Rattle.ux_net.specs.Nets.{graph_at}
use Rattle.ux_net.specs.Measured.{width_of, weigh, rank_in, rank_of, frees_in, must, IsLower}
use Rattle.ux_compile.specs.Construct.{has_state, number, called_at, labels_at, chain_len, first_chain, target_of, AreFit}
use Rattle.ux_admission.specs.Admission.{place_rank, is_place_free, ArePlaceRanks}
use Rattle.ux_compile.specs.Ranks.{rest_rank, rest_free, above, call_rank, call_free, chain_rank, chain_free, chain_rank_at, chain_free_at, state_ranks, state_frees, AreCallsInside, AreAllFit, AreBuilt}
use Rattle.ux_compile.proofs.StatesLemmas.{labels_called, place_inside, get_place, get_chain}
use Rattle.ux_compile.proofs.ConstructLaw.{has_line}
use Rattle.ux_compile.proofs.RankFalls.{sum_has, IsLowerRank, lower_weighs, rank_after, free_after}

-- a net that is built of places which have ranks
pub record IsRankedNet (graphs : List (List Place)) (rows ranks : List (List ℕ))
    (free : List (List Bool)) (built : List NetGraph) : Type 0 where
  pub fit : AreAllFit graphs
  pub inside : AreCallsInside graphs
  pub ranked : ArePlaceRanks graphs ranks free
  pub made : AreBuilt graphs rows ranks free built

module _ {graphs : List (List Place)} {rows ranks : List (List ℕ)} {free : List (List Bool)}
    {built : List NetGraph} (net : IsRankedNet graphs rows ranks free built) where
  abbrev places : ℕ → List Place
  places g = places_of graphs g

  abbrev labels : ℕ → ℕ → ℕ → List Label
  labels g b l = labels_at (places g) b l

  abbrev called : ℕ → ℕ → ℕ → Option ℕ
  called g b l = called_at (places g) b l

  -- states can be made of the places of a compiled graph
  pub graph_fit : (g : ℕ) (graph : NetGraph) → graph_at built g ≡ Some graph → AreFit (places g)
  graph_fit zero graph is = cc
  graph_fit (suc n) graph is =
      let w = slice_get_within built n graph is in
      let e = net.made.count in
      net.fit (suc n) (omega arith) (omega arith)

  -- each graph is compiled
  pub graph_there : (g : ℕ) → 1 ≤ g → g ≤ length graphs →
      (graph : NetGraph) × (graph_at built g ≡ Some graph)
  graph_there zero from to = absurd (omega arith)
  graph_there (suc n) from to =
      let d : NetGraph = record { name = []; states = []; ranks = []; free = []; closings = []; unmet = [] } in
      let e = net.made.count in
      (get_or built n d, slice_get-get_or built n d (omega arith))

  -- the rank and the mark of a state, as the net has them
  pub rank_is : (g n : ℕ) (graph : NetGraph) (rank : Rank) → graph_at built g ≡ Some graph →
      slice_get (state_ranks ranks free g (places g)) n ≡ Some rank →
      (rank_of built g n ≡ weigh (width_of built) rank) × (rank.minor ≤ width_of built)
  rank_is g n graph rank there found =
      let same = (net.made.each g graph there).ranked in
      let at : slice_get graph.ranks n ≡ Some rank =
      ap (λ (rs : List Rank). slice_get rs n) same ∙ found in (
        ap (λ (o : Option NetGraph). rank_in (width_of built) o n) there
            ∙ ap (weigh (width_of built)) (get_or_from_slice_get graph.ranks n rank
            (record { major = 0; minor = 0 }) at),
        (let one = sum_has (λ (r : Rank). r.minor) graph.ranks n rank at in
            let all = graph_width g graph there in
            omega arith),
      )
    where
      graph_width : (g : ℕ) (graph : NetGraph) → graph_at built g ≡ Some graph →
          sum_by (λ (r : Rank). r.minor) graph.ranks ≤ width_of built
      graph_width zero graph there = cc
      graph_width (suc m) graph there =
          sum_has (λ (graph : NetGraph). sum_by (λ (rank : Rank). rank.minor) graph.ranks)
          built m graph there

  -- the mark of a state, as the net has it
  pub free_is : (g n : ℕ) (graph : NetGraph) (mark : Bool) → graph_at built g ≡ Some graph →
      slice_get (state_frees ranks free g (places g)) n ≡ Some mark →
      must built g n ≡ cond mark 0 1
  free_is g n graph mark there found =
      let same = (net.made.each g graph there).marked in
      let at : slice_get graph.free n ≡ Some mark =
      ap (λ (ms : List Bool). slice_get ms n) same ∙ found in
      ap (λ (o : Option NetGraph). cond (frees_in o n) 0 1) there
      ∙ ap (λ (b : Bool). cond b 0 1) (get_or_from_slice_get graph.free n mark false at)

  -- what stands for a state in its graph
  pub record Marked (g n : ℕ) : Type 0 where
    pub rank : Rank
    pub ranked_so : slice_get (state_ranks ranks free g (places g)) n ≡ Some rank
    pub mark : Bool
    pub marked_so : slice_get (state_frees ranks free g (places g)) n ≡ Some mark

  -- a lower rank of two states is lower in the net
  pub rank_lower : (g from to : ℕ) (graph : NetGraph) → graph_at built g ≡ Some graph →
      (high : Marked g from) (low : Marked g to) → IsLowerRank low.rank high.rank →
      rank_of built g to < rank_of built g from
  rank_lower g from to graph there high low falls =
      let h = rank_is g from graph high.rank there high.ranked_so in
      let l = rank_is g to graph low.rank there low.ranked_so in
      let w = lower_weighs (width_of built) low.rank high.rank l.1 falls in
      let a = h.0 in
      let b = l.0 in
      omega arith

  -- and so it is with their marks
  pub lower : (g from to : ℕ) (graph : NetGraph) → graph_at built g ≡ Some graph →
      (high : Marked g from) (low : Marked g to) → IsLowerRank low.rank high.rank →
      (low.mark ≡ true → high.mark ≡ true) → IsLower built g from to
  lower g from to graph there high low falls marks =
      let f = free_is g from graph high.mark there high.marked_so in
      let t = free_is g to graph low.mark there low.marked_so in
      let m = at_most high.mark low.mark marks in
      (rank_lower g from to graph there high low falls, omega arith)
    where
      at_most : (from to : Bool) → (to ≡ true → from ≡ true) → cond from 0 1 ≤ cond to 0 1
      at_most true to h = omega arith
      at_most false true h = let e = h refl in cc
      at_most false false h = omega arith

  abbrev pub of_place : (g a : ℕ) → has_state (places g) a ≡ true → Marked g (number (places g) a)
  of_place g a has = record {
    rank = above (place_rank ranks g a);
    ranked_so = get_place (places g) (λ a. above (place_rank ranks g a))
        (chain_rank_at ranks free g (places g)) a has;
    mark = is_place_free free g a;
    marked_so = get_place (places g) (is_place_free free g)
        (chain_free_at ranks free g (places g)) a has;
  }

  abbrev pub of_chain : (g b l i : ℕ) → AreFit (places g) → l < length (label_lines (places g) b) →
      i < chain_len (places g) b l → called g b l ≡ None →
      Marked g (first_chain (places g) b l + i)
  of_chain g b l i ok at lt none =
      let within = place_inside (places g) b (has_line (places g) ok b l at) in
      record {
        rank = rest_rank (place_rank ranks g b) (drop (i + 1) (labels g b l));
        ranked_so = get_chain (places g) (λ a. above (place_rank ranks g a))
            (chain_rank_at ranks free g (places g)) b l i within at lt
            ∙ ap (λ (called : Option ℕ). Some (chain_rank ranks free called (place_rank ranks g b)
            (drop (i + 1) (labels g b l)))) none;
        mark = rest_free (is_place_free free g b) (drop (i + 1) (labels g b l));
        marked_so = get_chain (places g) (is_place_free free g)
            (chain_free_at ranks free g (places g)) b l i within at lt
            ∙ ap (λ (called : Option ℕ). Some (chain_free ranks free called
            (is_place_free free g b) (drop (i + 1) (labels g b l)))) none;
      }

  abbrev pub after : (g b l k : ℕ) → AreFit (places g) → l < length (label_lines (places g) b) →
      k < length (labels g b l) → called g b l ≡ None → Marked g (target_of (places g) b l k)
  after g b l k ok at lt none = record {
    rank = rest_rank (place_rank ranks g b) (drop (k + 1) (labels g b l));
    ranked_so = rank_after (places g) ok ranks free g b l k at lt none;
    mark = rest_free (is_place_free free g b) (drop (k + 1) (labels g b l));
    marked_so = free_after (places g) ok ranks free g b l k at lt none;
  }

  -- the chain state before a call, which stands behind an output
  abbrev pub before_call : (g b l h : ℕ) → AreFit (places g) →
      l < length (label_lines (places g) b) → called g b l ≡ Some h →
      Marked g (first_chain (places g) b l + 0)
  before_call g b l h ok at is =
      let within = place_inside (places g) b (has_line (places g) ok b l at) in
      let two = ap (length {A = Label}) (labels_called (places g) ok b l h at is) in
      let one : 0 < chain_len (places g) b l = omega (arith, two) in
      record {
        rank = call_rank ranks free h (place_rank ranks g b);
        ranked_so = get_chain (places g) (λ a. above (place_rank ranks g a))
            (chain_rank_at ranks free g (places g)) b l 0 within at one
            ∙ ap (λ (called : Option ℕ). Some (chain_rank ranks free called (place_rank ranks g b)
            (drop (0 + 1) (labels g b l)))) is;
        mark = call_free ranks free h (is_place_free free g b);
        marked_so = get_chain (places g) (is_place_free free g)
            (chain_free_at ranks free g (places g)) b l 0 within at one
            ∙ ap (λ (called : Option ℕ). Some (chain_free ranks free called
            (is_place_free free g b) (drop (0 + 1) (labels g b l)))) is;
      }
