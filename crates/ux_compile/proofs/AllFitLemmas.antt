-- The places of well formed graphs are fit to be built, and what is built of them is sound.
use Rattle.std.proofs.Common.{arith, ◌≡◌, ℕ, zero, suc, ◌*◌, ◌<◌, ◌≤◌, List, [], ◌∷◌, refl, sym, ◌∙◌, ap, subst, Bool, true, false, cond, ◌⊎◌, inl, inr, length, get_or, None, Some}
use Rattle.std.specs.Prelude.{All, slice_get, nat_eq, sum_by}
use Rattle.std.specs.Option.{option_map}
use Rattle.std.proofs.lemmas.Bool.{eqb-true}
use Rattle.std.proofs.lemmas.List.{length-map, get_or_default}
use Rattle.std.proofs.lemmas.List.Elements.{All-tail, All-contains}
use Rattle.std.proofs.lemmas.Option.{slice_get-map, slice_get_cases}
use Rattle.ux_alphabet.specs.Letters.{Letters}
use Rattle.ux_grf.specs.declared.graph.GrfBox.{GrfBox}
use Rattle.ux_grf.specs.Reached.{start}
use Rattle.ux_grf.specs.Size.{size_of}
use Rattle.ux_grf.specs.WellFormed.{IsWellFormed}
use Rattle.ux_boxes.specs.declared.place.Place.{Place}
use Rattle.ux_admission.specs.Admission.{place_rank, ArePlaceRanks}
use Rattle.ux_boxes.specs.Boxes.{Drawn, boxes_in, names_of}
use Rattle.ux_boxes.specs.Splitting.{AreSplit}
use Rattle.ux_compile.specs.Construct.{place_size, has_state, AreFit}
use Rattle.ux_boxes.specs.Fit.{IsFitLine, IsFit, HasLinesWhereReached}
use Rattle.ux_net.specs.Nets.{IsCalled}
use Rattle.ux_boxes.specs.Numbers.{all_places}
use Rattle.ux_boxes.specs.Places.{ArePlaces, places_of, label_lines, is_reached}
use Rattle.ux_compile.specs.Ranks.{AreCallsInside, AreAllFit}
use Rattle.ux_boxes.specs.Refusing.{drawn_of, drawn}
use Rattle.ux_boxes.proofs.NumbersLemmas.{places_at, graph_so}
use Rattle.ux_boxes.proofs.RefusingLemmas.{Given}
use Rattle.ux_compile.proofs.SizesLemmas.{places_few}
use Rattle.ux_boxes.proofs.StepsLemmas.{line_from}
use Rattle.ux_boxes.proofs.WellFormedFit.{graph_fit, graph_has_lines}

-- fit places of which few enough states come
are_fit : (count : ℕ) (places : List Place) → IsFit count places →
    HasLinesWhereReached places → sum_by place_size places < 4294967296 → AreFit places
are_fit count places fit reached few = record {
  start = (reached.reached 0 (let two = fit.two in omega (arith, two))).1 start;
  targets = fit.inside;
  stateless = λ b none. by b (nat_eq b 1) refl none;
  lines = λ b line h.
      (All-contains (IsFitLine count) (label_lines places b) line (fit.lines b) h).line;
  few = few;
}
  where
    by : (b : ℕ) (t : Bool) → nat_eq b 1 ≡ t → has_state places b ≡ false → label_lines places b ≡ []
    by b true is none = reached.bare b (inl (eqb-true b 1 is))
    by b false is none =
        reached.bare b (inr (sym (ap (λ (t : Bool). cond t false (is_reached places b)) is) ∙ none))

-- what holds of each of the lists of places holds of all
all_graphs : (P : List Place → Type 0) (places : List (List Place)) →
    ((n : ℕ) → n < length places → P (places_of places (suc n))) → All P places
all_graphs P places each n d lt = subst P (places_at places n d lt) (each n lt)

module _ (alphabet : Letters) (graphs : List Given) (places : List (List Place))
    (formed : All (λ (graph : Given). IsWellFormed graph.1) graphs)
    (small : All (λ (graph : Given). size_of graph.1 < 4294967296) graphs)
    (are : AreSplit alphabet (drawn graphs) places) where
  abbrev names : List (List ℕ)
  names = names_of (drawn graphs)

  -- the graph of a number, and what holds of its places
  record IsAt (n : ℕ) : Type 0 where
    graph : Given
    formed_here : IsWellFormed graph.1
    small_here : size_of graph.1 < 4294967296
    are_here : ArePlaces alphabet names graph.1.boxes (places_of places (suc n))

  -- a place of a graph that is there
  at : (n : ℕ) → n < length places → IsAt n
  at n lt =
      let count = are.count in
      let len = length-map graphs drawn_of in
      let inside : n < length graphs = omega (arith, lt, count, len) in
      by inside (slice_get_cases graphs n).1
    where
      by : n < length graphs → ((x : Given) × (n < length graphs) × (slice_get graphs n ≡ Some x)
          × (get_or graphs n x ≡ x)) ⊎ ((length graphs ≤ n) × (slice_get graphs n ≡ None)) → IsAt n
      by inside (inr past) = let p = past.0 in absurd (omega (arith, p, inside))
      by inside (inl h) =
          let found : slice_get (drawn graphs) n ≡ Some (drawn_of h.0) =
          slice_get-map drawn_of graphs n ∙ ap (option_map drawn_of) h.2 in
          record {
            graph = h.0;
            formed_here = subst (λ (g : Given). IsWellFormed g.1) h.3 (formed n h.0 inside);
            small_here = subst (λ (g : Given). size_of g.1 < 4294967296) h.3 (small n h.0 inside);
            are_here = subst (λ (boxes : List GrfBox).
                ArePlaces alphabet names boxes (places_of places (suc n)))
                (ap boxes_in found)
                (are.each n (let c = are.count in omega (arith, lt, c)));
          }

  -- there are as many graphs as names
  counted : length names ≡ length places
  counted =
      length-map (drawn graphs) (λ (d : Drawn). d.name) ∙ sym are.count

  -- the places of each graph are fit
  fit_at : (n : ℕ) → n < length places → IsFit (length places) (places_of places (suc n))
  fit_at n lt =
      let a = at n lt in
      subst (λ (count : ℕ). IsFit count (places_of places (suc n))) counted
      (graph_fit alphabet names a.graph.1 (places_of places (suc n)) a.formed_here
      a.are_here)

  -- the places are fit for the test of loops
  pub all_fit : All (IsFit (length places)) places
  all_fit = all_graphs (IsFit (length places)) places fit_at

  -- they have lines where they are reached
  reached_at : (n : ℕ) → n < length places → HasLinesWhereReached (places_of places (suc n))
  reached_at n lt =
      let a = at n lt in
      graph_has_lines alphabet names a.graph.1 (places_of places (suc n)) a.formed_here a.are_here

  -- their lines stand where they are reached
  pub all_reached : All HasLinesWhereReached places
  all_reached = all_graphs HasLinesWhereReached places reached_at

  -- no graph has more places than a file has boxes
  pub all_few : All (λ (p : List Place). length p ≤ 65535) places
  all_few = all_graphs (λ (p : List Place). length p ≤ 65535) places (λ n lt.
      let a = at n lt in
      let most = a.formed_here.most in
      let len = a.are_here.len in
      omega (arith, most, len))

  -- and states can be made of them
  are_fit_at : (n : ℕ) → n < length places → AreFit (places_of places (suc n))
  are_fit_at n lt =
      let a = at n lt in
      let fit = fit_at n lt in
      let few = places_few alphabet names a.graph.1 (places_of places (suc n)) a.are_here fit.start in
      let less = a.small_here in
      are_fit (length places) (places_of places (suc n)) fit (reached_at n lt) (omega (arith, few, less))

  -- states can be made of the places
  pub all_are_fit : All AreFit places
  all_are_fit = all_graphs AreFit places are_fit_at

  -- so states can be made of all graphs
  pub each_is_fit : AreAllFit places
  each_is_fit zero from to = absurd (omega (arith, from))
  each_is_fit (suc n) from to = are_fit_at n (omega (arith, to))

module _ (places : List (List Place)) (fit : All (IsFit (length places)) places) where
  -- a call on a line is of a graph that is there
  pub calls_inside : AreCallsInside places
  calls_inside g b line x of_place of_line =
      let f = graph_so (IsFit (length places)) places fit g b (line_from (places_of places g) b line of_place) in
      All-contains (IsCalled (length places)) line x
      (All-contains (IsFitLine (length places)) (label_lines (places_of places g) b) line
      (f.lines b) of_place).called of_line

-- with at most so many graphs of at most so many places, all ranks have 32 bits
pub all_places_few : (places : List (List Place)) → All (λ (p : List Place). length p ≤ 65535) places →
    all_places places ≤ length places * 65535
all_places_few [] few = omega arith
all_places_few (p ∷ places) few =
    let one = few 0 p (omega arith) in
    let r = all_places_few places (All-tail (λ (q : List Place). length q ≤ 65535) p places few) in
    omega (arith, one, r)

-- ranks of few places are small
pub ranks_small : (places : List (List Place)) (ranks : List (List ℕ)) (free : List (List Bool)) →
    All (λ (p : List Place). length p ≤ 65535) places → length places ≤ 65535 →
    ArePlaceRanks places ranks free → All (All (λ rank. rank < 4294967296)) ranks
ranks_small places ranks free few most admitted k d lt n e within =
    let all = all_places_few places few in
    let below = admitted.below (suc k) n in
    let row : get_or ranks k [] ≡ get_or ranks k d = get_or_default ranks k [] d lt in
    let same : place_rank ranks (suc k) n ≡ get_or (get_or ranks k d) n e =
    ap (λ (l : List ℕ). get_or l n 0) row ∙ get_or_default (get_or ranks k d) n 0 e within in
    let bound : all_places places ≤ 65535 * 65535 = omega (arith, all, most) in
    omega (arith, below, same, bound)
