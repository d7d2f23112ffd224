-- The net that is built of the places: its names, its states and its words.
use Rattle.std.proofs.Common.{arith, ◌≡◌, ℕ, zero, suc, ◌<◌, ◌≤◌, List, [], refl, sym, ◌∙◌, ap, subst, Bool, ◌⊎◌, inl, inr, length, get_or, map, None, Some, true}
use Rattle.std.specs.Prelude.{slice_get}
use Rattle.std.specs.Option.{option_map}
use Rattle.std.proofs.lemmas.Option.{slice_get_cases, slice_get-map, slice_get_within, slice_get_past}
use Rattle.ux_alphabet.specs.Letters.{Letters}
use Rattle.ux_base.specs.Distinct.{StandOnce}
use Rattle.ux_net.specs.declared.net_graph.NetGraph.{NetGraph}
use Rattle.ux_boxes.specs.declared.place.Place.{Place}
use Rattle.ux_net.specs.declared.state.State.{State}
use Rattle.ux_boxes.specs.Boxes.{Drawn, names_of, box_grammar}
use Rattle.ux_boxes.specs.Splitting.{AreSplit}
use Rattle.ux_compile.specs.Compiling.{IsConstructedOf, IsConstructed}
use Rattle.ux_net.specs.Nets.{graph_at, states_in, net_graph, net_grammar, states_of as net_states}
use Rattle.ux_boxes.specs.Places.{places_in, places_of, is_reached, reached_in, place_grammar}
use Rattle.ux_compile.specs.Ranks.{AreAllFit, AreBuilt}
use Rattle.ux_net.specs.Words.{SayTheSame}
use Rattle.ux_compile.proofs.ConstructLaw.{number_in, construction_same}
use Rattle.ux_net.proofs.RefineLemmas.{IsSame, each_same}
use Rattle.ux_net.proofs.SameGrammar.{say_within}
use Rattle.ux_compile.proofs.SplitLemmas.{none_there, to_places, to_boxes}
use Rattle.ux_boxes.proofs.StepsLemmas.{target_from}

module _ (alphabet : Letters) (graphs : List Drawn) (places : List (List Place))
    (rows ranks : List (List ℕ)) (free : List (List Bool)) (net : List NetGraph)
    (are : AreSplit alphabet graphs places) (made : AreBuilt places rows ranks free net) where
  constructed_of : map (λ (graph : NetGraph). graph.name) net ≡ names_of graphs → (g : ℕ)
      (graph : NetGraph) → graph_at net g ≡ Some graph → IsConstructedOf alphabet graphs g graph
  constructed_of names zero graph found = cc
  constructed_of names (suc n) graph found = record {
    name =
        ap (λ (l : List (List ℕ)). slice_get l n) (sym names)
        ∙ (slice_get-map (λ (x : NetGraph). x.name) net n
        ∙ ap (option_map (λ (x : NetGraph). x.name)) found);
    places = places_of places (suc n);
    of_boxes = are.each n
        (let w = slice_get_within net n graph found in let c = made.count in
        let d = are.count in omega (arith, w, c, d));
    states = (made.each (suc n) graph found).states;
    aside = (made.each (suc n) graph found).aside;
  }

  -- the net is made of the graphs that are drawn
  pub constructed : map (λ (graph : NetGraph). graph.name) net ≡ names_of graphs →
      IsConstructed alphabet graphs net
  constructed names = record { count = made.count ∙ are.count; each = constructed_of names }

module _ (places : List (List Place)) (rows ranks : List (List ℕ)) (free : List (List Bool))
    (net : List NetGraph) (fit : AreAllFit places) (made : AreBuilt places rows ranks free net) where
  -- without places and states there is no word and no body
  none_same : (g : ℕ) (states : List State) → places_of places g ≡ [] → states ≡ [] →
      IsSame (place_grammar places) (number_in places) g (net_graph states)
  none_same g states no_place no_state = record {
    words = λ v w. absurd (none_there (places_of places g) w.last no_place
        (target_from (places_of places g) w.last 1 w.ends.1));
    words_back = λ w word.
        let inside = slice_get_within states word.last word.ends.state word.ends.found in
        let len = ap (λ (l : List State). length l) no_state in
        absurd (omega (arith, inside, len));
    bodies = λ opening closing a b v body. absurd (no_place_at opening a.1);
    bodies_back = λ opening closing a b w body. absurd (no_place_at opening a.1);
  }
    where
      no_place_at : (n : ℕ) → is_reached (places_of places g) n ≡ true → ⊥
      no_place_at n on =
          let off = ap reached_in (slice_get_past (places_of places g) n
          (rw no_place (omega arith))) in cc

  -- each graph of the net says the same as its places
  place_same : (g : ℕ) →
      IsSame (place_grammar places) (number_in places) g (net_graph (net_states net g))
  place_same zero = none_same 0 [] refl refl
  place_same (suc n) = by (slice_get_cases net n).1
    where
      by : ((x : NetGraph) × (n < length net) × (slice_get net n ≡ Some x) × (get_or net n x ≡ x))
          ⊎ ((length net ≤ n) × (slice_get net n ≡ None)) →
          IsSame (place_grammar places) (number_in places) (suc n)
          (net_graph (net_states net (suc n)))
      by (inl h) =
          subst (λ (s : List State).
          IsSame (place_grammar places) (number_in places) (suc n) (net_graph s))
          (sym (ap states_in h.2 ∙ (made.each (suc n) h.0 h.2).states))
          (construction_same places (suc n) (fit (suc n) (omega arith)
          (let lt = h.1 in let c = made.count in omega (arith, lt, c))))
      by (inr past) =
          none_same (suc n) (net_states net (suc n))
          (ap places_in (slice_get_past places n
          (let p = past.0 in let c = made.count in omega (arith, p, c))))
          (ap states_in past.1)

  -- and so the net says the same as the boxes
  pub boxes_same : (alphabet : Letters) (graphs : List Drawn) → StandOnce (names_of graphs) →
      AreSplit alphabet graphs places →
      SayTheSame (box_grammar alphabet graphs) (net_grammar net)
  boxes_same alphabet graphs once are =
      say_within (box_grammar alphabet graphs) (place_grammar places) (net_grammar net)
      (to_places alphabet graphs places once are)
      (to_boxes alphabet graphs places once are)
      (each_same (place_grammar places) (number_in places) (net_grammar net) place_same)
