-- The theorem that makes walks end: a net that is built of places which have ranks is measured, and
-- its edges stay inside.
use Rattle.std.proofs.Common.{arith, ◌≡◌, ℕ, ◌<◌, ◌≤◌, List, [], refl, sym, ◌∙◌, ap, subst, length, get_or, Bool, true, false, cond}
use Rattle.std.specs.Prelude.{Option, Some, None, slice_get, IsTrue}
use Rattle.std.proofs.lemmas.Option.{slice_get_within}
use Rattle.std.proofs.lemmas.List.Elements.{Contains-get_or}
use Rattle.ux_net.specs.declared.label.Label.{Label}
use Rattle.ux_net.specs.declared.label.Label.TheVariants.{Empty}
use Rattle.ux_boxes.specs.declared.place.Place.{Place}
use Rattle.ux_net.specs.declared.net_graph.NetGraph.{NetGraph}
use Rattle.ux_net.specs.declared.state.Edge.{Edge}
use Rattle.ux_net.specs.declared.state.State.{State}
use Rattle.ux_boxes.specs.Places.{place_targets, places_of}
use Rattle.ux_net.specs.Nets.{graph_at, states_in, IsCalled, AreInside, states_of as net_states}
use Rattle.ux_net.specs.Measured.{must, IsMeasured}
use Rattle.ux_compile.specs.Construct.{number, line_at, called_at, labels_at, states_of, AreFit}
use Rattle.ux_admission.specs.Admission.{ArePlaceRanks}
use Rattle.ux_compile.specs.Ranks.{AreCallsInside, AreAllFit, AreBuilt}
use Rattle.ux_compile.proofs.EdgeLabelsLemmas.{each_label}
use Rattle.ux_compile.proofs.StatesLemmas.{line_there, Stands, of_a_place, of_a_line, stands}
use Rattle.ux_compile.proofs.ConstructLaw.{one_in, not_end, place_is, chain_is, of_label, targets_inside, states_some, states_length}
use Rattle.ux_compile.proofs.StateRanks.{graph_fit, free_is, of_place, IsRankedNet}
use Rattle.ux_compile.proofs.EdgeFalls.{edge_falls}

module _ (graphs : List (List Place)) (rows ranks : List (List ℕ)) (free : List (List Bool))
    (built : List NetGraph) (fit : AreAllFit graphs) (inside : AreCallsInside graphs)
    (ranked : ArePlaceRanks graphs ranks free) (made : AreBuilt graphs rows ranks free built) where
  abbrev net : IsRankedNet graphs rows ranks free built
  net = record { fit = fit; inside = inside; ranked = ranked; made = made }

  abbrev places : ℕ → List Place
  places g = places_of graphs g

  abbrev labels : ℕ → ℕ → ℕ → List Label
  labels g b l = labels_at (places g) b l

  abbrev line : ℕ → ℕ → ℕ → List Label
  line g b l = line_at (places g) b l

  abbrev called : ℕ → ℕ → ℕ → Option ℕ
  called g b l = called_at (places g) b l

  -- a state of the net is one of the states of its graph
  pub record InGraph (g n : ℕ) (state : State) : Type 0 where
    pub graph : NetGraph
    pub there : graph_at built g ≡ Some graph
    pub ok : AreFit (places g)
    pub found : slice_get (states_of (places g)) n ≡ Some state
    pub same : net_states built g ≡ states_of (places g)

  -- a state that is there is one of a compiled graph
  pub in_graph : (g n : ℕ) (state : State) → slice_get (net_states built g) n ≡ Some state →
      InGraph g n state
  in_graph g n state found = go (graph_at built g) refl found
    where
      go : (o : Option NetGraph) → graph_at built g ≡ o →
          slice_get (states_in o) n ≡ Some state → InGraph g n state
      go None is found = absurd (let w = slice_get_within [] n state found in omega arith)
      go (Some graph) is found =
          let same = (made.each g graph is).states in
          record {
            graph = graph;
            there = is;
            ok = graph_fit net g graph is;
            found = ap (λ (s : List State). slice_get s n) (sym same) ∙ found;
            same = ap states_in is ∙ same;
          }

  -- at a final state no token has to come
  ending : (g n : ℕ) (state : State) → InGraph g n state → IsTrue state.is_final →
      must built g n ≡ 0
  ending g n state i final =
      go (stands (places g) n (let w = slice_get_within (states_of (places g)) n state i.found in
      let e = states_length (places g) i.ok in omega arith))
    where
      go : Stands (places g) n → must built g n ≡ 0
      go (of_a_place a has at) =
          let same = place_is (places g) i.ok a n state has at i.found in
          let one = one_in (place_targets (places g) a)
          (subst (λ (x : State). x.is_final ≡ true) same final) in
          let marked = ranked.ends g a (not_end (places g) i.ok a has, one) in
          let p = of_place net g a has in
          ap (must built g) at
          ∙ (free_is net g (number (places g) a) i.graph p.mark i.there p.marked_so
          ∙ ap (λ (b : Bool). cond b 0 1) marked)
      go (of_a_line b l k within at lt is) =
          let same = chain_is (places g) i.ok b l k n state at lt is i.found in
          absurd (let f : false ≡ true = subst (λ (x : State). x.is_final ≡ true) same final in cc)

  -- every edge leads lower where it may take nothing
  pub built_is_measured : IsMeasured built
  built_is_measured = record {
    falls = λ g n state edge found within.
        let i = in_graph g n state found in
        edge_falls net g n edge i.graph i.there i.ok
        (of_label (places g) i.ok n state edge i.found within);
    ends = λ g n state found final. ending g n state (in_graph g n state found) final;
  }

  -- every edge leads to a state that is there, and calls a graph that is there
  pub built_is_inside : AreInside built
  built_is_inside = record {
    start = λ g graph there.
        subst (λ (s : List State). 0 < length s) (sym (made.each g graph there).states)
        (states_some (places g) (graph_fit net g graph there));
    edges = λ g n state edge found within.
        let i = in_graph g n state found in
        let o = of_label (places g) i.ok n state edge i.found within in
        let call : IsCalled (length graphs) edge.label =
        subst (IsCalled (length graphs)) (ap (λ (e : Edge). e.label) o.is)
        (each_label (IsCalled (length graphs)) (called g o.place o.line) (line g o.place o.line) tt
        (λ x of_line. inside g o.place (line g o.place o.line) x
        (line_there (places g) o.place o.line o.inside) of_line)
        (get_or (labels g o.place o.line) o.k Empty)
        (Contains-get_or (labels g o.place o.line) o.k Empty o.below)) in
        record {
          target = subst (λ (s : List State). edge.target < length s) (sym i.same)
              (targets_inside (places g) i.ok n state edge i.found within);
          called = subst (λ count. IsCalled count edge.label) (sym made.count) call;
        };
  }
