-- A net that keeps nothing aside has, as a file tells it, the states that are searched, and so their
-- edges stay inside.
use Rattle.std.proofs.Common.{arith, ◌≡◌, ℕ, zero, suc, ◌<◌, List, [], refl, sym, ◌∙◌, ap, subst, length, map, Some, None}
use Rattle.std.specs.Prelude.{Option, slice_get, Contains}
use Rattle.std.specs.Option.{option_map}
use Rattle.std.proofs.lemmas.Option.{slice_get-map, same_Some}
use Rattle.std.proofs.lemmas.List.{length-map}
use Rattle.ux_net.specs.declared.net_graph.NetGraph.{NetGraph}
use Rattle.ux_net.specs.declared.state.Edge.{Edge}
use Rattle.ux_net.specs.declared.state.State.{State}
use Rattle.ux_net.specs.declared.state_graph.StateGraph.{StateGraph}
use Rattle.ux_net.specs.Nets.{graph_at, states_in, states_of, IsEdgeInside, AreInside}
use Rattle.ux_net.specs.StateGraphs.{told_at, told_in, told_states, AreInsideStates}
use Rattle.ux_net.specs.Whole.{told_graph, whole_from}
use Rattle.ux_net.proofs.WholeLemmas.{length_whole, whole_same}

-- the graph of a number, as a file tells it
told_same : (net : List NetGraph) (g : ℕ) →
    told_at (map told_graph net) g ≡ option_map told_graph (graph_at net g)
told_same net zero = refl
told_same net (suc n) = slice_get-map told_graph net n

module _ (net : List NetGraph) where
  -- there is a graph of the net for each that is told
  found : (g : ℕ) (told : StateGraph) → told_at (map told_graph net) g ≡ Some told →
      (graph : NetGraph) × (graph_at net g ≡ Some graph) × (told ≡ told_graph graph)
  found g told there = go (graph_at net g) refl (sym (told_same net g) ∙ there)
    where
      go : (o : Option NetGraph) → graph_at net g ≡ o → option_map told_graph o ≡ Some told →
          (graph : NetGraph) × (graph_at net g ≡ Some graph) × (told ≡ told_graph graph)
      go None is here = cc
      go (Some graph) is here = (graph, is, sym (same_Some (told_graph graph) told here))

  -- where nothing is kept aside, the states that are told are those that are searched
  states_told : ((g : ℕ) (graph : NetGraph) → graph_at net g ≡ Some graph → graph.unmet ≡ []) →
      (g : ℕ) → told_states (map told_graph net) g ≡ states_of net g
  states_told none g = ap told_in (told_same net g) ∙ go (graph_at net g) refl
    where
      go : (o : Option NetGraph) → graph_at net g ≡ o →
          told_in (option_map told_graph o) ≡ states_in o
      go None is = refl
      go (Some graph) is =
          ap (λ l. whole_from l 0 graph.states) (none g graph is) ∙ whole_same 0 graph.states

  -- and they stay inside
  pub whole_inside : AreInside net →
      ((g : ℕ) (graph : NetGraph) → graph_at net g ≡ Some graph → length graph.states < 4294967296) →
      ((g : ℕ) (graph : NetGraph) → graph_at net g ≡ Some graph → graph.unmet ≡ []) →
      AreInsideStates (map told_graph net)
  whole_inside inside few none = record {
    start = λ g told there.
        let f = found g told there in
        let len = ap (λ (t : StateGraph). length t.states) f.2 in
        let same = length_whole f.0.unmet 0 f.0.states in
        let some = inside.start g f.0 f.1 in
        omega (arith, len, same, some);
    few = λ g told there.
        let f = found g told there in
        let len = ap (λ (t : StateGraph). length t.states) f.2 in
        let same = length_whole f.0.unmet 0 f.0.states in
        let less = few g f.0 f.1 in
        omega (arith, len, same, less);
    edges = λ g n state edge there within.
        let same = states_told none g in
        subst (λ count. IsEdgeInside count (length (told_states (map told_graph net) g)) edge)
        (sym (length-map net told_graph))
        (subst (λ (l : List State). IsEdgeInside (length net) (length l) edge) (sym same)
        (inside.edges g n state edge
        (ap (λ (l : List State). slice_get l n) (sym same) ∙ there) within));
  }
