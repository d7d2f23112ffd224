-- A net that is built of states has exactly them, and all that holds of every net holds of it.
use Rattle.std.proofs.Common.{arith, ◌≡◌, ℕ, suc, ◌+◌, ◌<◌, ◌≤◌, List, [], ◌∷◌, refl, sym, ◌∙◌, ap, subst, ◌⊎◌, inl, inr, length, map, Some, None}
use Rattle.std.specs.Prelude.{slice_get, Contains}
use Rattle.std.specs.Option.{option_map}
use Rattle.std.proofs.lemmas.List.{length-map}
use Rattle.std.proofs.lemmas.Option.{slice_get-map, same_Some}
use Rattle.ux_base.proofs.Lists.{nothing_in}
use Rattle.ux_net.specs.declared.label.Label.{Label}
use Rattle.ux_net.specs.declared.label.Label.TheVariants.{Empty}
use Rattle.ux_net.specs.declared.net_graph.NetGraph.{NetGraph}
use Rattle.ux_net.specs.declared.net_graph.UnmetState.{UnmetState}
use Rattle.ux_net.specs.declared.state.Edge.{Edge}
use Rattle.ux_net.specs.declared.state.State.{State}
use Rattle.ux_net.specs.declared.state_graph.StateGraph.{StateGraph}
use Rattle.ux_net.specs.Nets.{graph_at, states_in, states_of, IsCalled, IsEdgeInside, AreInside}
use Rattle.ux_net.specs.Sound.{IsSound}
use Rattle.ux_net.specs.StateGraphs.{told_at, told_in, told_states, AreInsideStates}
use Rattle.ux_net.specs.Whole.{AreAside, HaveSameStates, told_graph, unmet_at, whole_from, whole_states}
use Rattle.ux_boxes.specs.Numbers.{all_places}
use Rattle.ux_states.specs.Building.{aside_from}
use Rattle.ux_states.proofs.Found.{Found, IsBuilt}
use Rattle.ux_states.proofs.MarkedLaw.{net_measured, net_marked}
use Rattle.ux_states.proofs.NetStates.{first, met, both, Both, states_are, of_state}
use Rattle.ux_states.proofs.PartedLemmas.{whole, length_searched, are_aside}
use Rattle.ux_states.proofs.TellsLaw.{net_ascends, net_tells}

-- lists of one length whose elements are the same at each index
same_lists : {A : Type 0} (xs ys : List A) → length xs ≡ length ys →
    ((i : ℕ) (x y : A) → slice_get xs i ≡ Some x → slice_get ys i ≡ Some y → x ≡ y) → xs ≡ ys
same_lists [] [] len each = refl
same_lists [] (y ∷ ys) len each = absurd (omega (arith, len))
same_lists (x ∷ xs) [] len each = absurd (omega (arith, len))
same_lists (x ∷ xs) (y ∷ ys) len each =
    ap (λ z. z ∷ xs) (each 0 x y refl refl)
    ∙ ap (λ l. y ∷ l) (same_lists xs ys (omega (arith, len))
    (λ i a b found there. each (suc i) a b found there))

module _ (it : Found) (net : List NetGraph) (made : IsBuilt it net) where
  open it use {graphs, places, inside}

  -- a graph of the net is told as it was
  told_is : (g : ℕ) (b : Both it net made g) → told_graph b.built ≡ b.graph
  told_is g b =
      ap (λ (n : List ℕ). make n (whole_states b.built)) b.of.name
      ∙ ap (λ (l : List State). make b.graph.name l)
      (ap (λ u. whole_from u 0 b.built.states) b.of.unmet
      ∙ (ap (whole_from (aside_from (met it net made g) 0 b.graph.states) 0) b.of.states
      ∙ whole (met it net made g) b.graph.states 0))
    where
      make : List ℕ → List State → StateGraph
      make n l = record { name = n; states = l }

  -- the law: the net has exactly the states that are told
  pub net_whole : HaveSameStates net graphs
  net_whole =
      same_lists (map told_graph net) graphs (length-map net told_graph ∙ made.count)
      (λ i x y found here. go i x y (sym (slice_get-map told_graph net i) ∙ found) here
      (both it net made (suc i)))
    where
      go : (i : ℕ) (x y : StateGraph) → option_map told_graph (slice_get net i) ≡ Some x →
          slice_get graphs i ≡ Some y →
          Both it net made (suc i)
          ⊎ ((told_at graphs (suc i) ≡ None) × (graph_at net (suc i) ≡ None)) → x ≡ y
      go i x y found here (inl b) =
          same_Some x (told_graph b.built) (sym found ∙ ap (option_map told_graph) b.there)
          ∙ (told_is (suc i) b ∙ same_Some b.graph y (sym b.told ∙ here))
      go i x y found here (inr none) =
          absurd (let no : None ≡ Some y = sym none.0 ∙ here in cc)

  -- there are as many states
  states_count : (g : ℕ) → length (states_of net g) ≡ length (told_states graphs g)
  states_count g =
      ap (λ (l : List State). length l) (states_are it net made g)
      ∙ length_searched (met it net made g) (told_states graphs g) 0

  -- of a graph that is there
  graph_count : (g : ℕ) (graph : NetGraph) → graph_at net g ≡ Some graph →
      (told : StateGraph) × (told_at graphs g ≡ Some told)
      × (length graph.states ≡ length told.states)
  graph_count g graph found = elim (both it net made g) [
    | inl b ↦ (
      b.graph,
      b.told,
      ap (λ o. length (states_in o)) (sym found)
          ∙ (states_count g ∙ ap (λ o. length (told_in o)) b.told),
    )
    | inr none ↦ absurd (let no : None ≡ Some graph = sym none.1 ∙ found in cc)
  ]

  -- an edge of the net leads to a state and calls a graph that is there
  edge_inside : (g n : ℕ) (state : State) (edge : Edge) →
      slice_get (states_of net g) n ≡ Some state → Contains state.edges edge →
      IsEdgeInside (length net) (length (states_of net g)) edge
  edge_inside g n state edge found within =
      let r = (of_state it net made g n state found edge within).1 in
      let here = inside.edges g n r.state r.edge r.found r.inside in
      let to = r.to in
      let less = here.target in
      let count = states_count g in
      record {
        target = omega (arith, to, less, count);
        called = subst (λ c. IsCalled c edge.label) (sym made.count)
            (subst (IsCalled (length graphs)) (ap first (sym r.label)) here.called);
      }

  -- so the net stays inside
  net_inside : AreInside net
  net_inside = record {
    start = λ g graph found.
        let r = graph_count g graph found in
        let some = inside.start g r.0 r.1 in
        let same = r.2 in
        omega (arith, some, same);
    edges = edge_inside;
  }

  -- what is kept aside is told in order, and of bare states
  aside : (g : ℕ) → AreAside (unmet_at (graph_at net g)) (states_of net g)
  aside g = elim (both it net made g) [
    | inl b ↦
        subst (λ (o : _). AreAside (unmet_at o) (states_in o)) (sym b.there)
        (subst (λ (l : List UnmetState). AreAside l b.built.states) (sym b.of.unmet)
        (subst (AreAside (aside_from (met it net made g) 0 b.graph.states)) (sym b.of.states)
        (are_aside (met it net made g) b.graph.states)))
    | inr none ↦
        subst (λ (o : _). AreAside (unmet_at o) (states_in o)) (sym none.1) (record {
          ascend = λ i j lt within. absurd (omega (arith, within));
          bare = λ entry has. absurd (nothing_in {x = entry} has);
        })
  ]

  -- the law: all that holds of every net holds of it
  pub net_sound : 1 ≤ length graphs → length graphs ≤ 65535 → all_places places + 1 < 4294967296 →
      IsSound net
  net_sound some few places_few =
      let count = made.count in
      record {
        some = omega (arith, count, some);
        few = omega (arith, count, few);
        numbered = λ g graph found.
            let r = graph_count g graph found in
            let less = inside.few g r.0 r.1 in
            let same = r.2 in
            omega (arith, less, same);
        inside = net_inside;
        measured = net_measured it net made;
        marked = net_marked it net made places_few;
        closings = net_ascends it net made;
        told = net_tells it net made;
        aside = aside;
        whole = subst AreInsideStates (sym net_whole) inside;
      }
