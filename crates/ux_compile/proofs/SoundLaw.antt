-- All that holds of every net holds of one that is built of places.
use Rattle.std.proofs.Common.{arith, ◌≡◌, ℕ, ◌+◌, ◌<◌, ◌≤◌, List, [], refl, sym, ap, subst, length, get_or, Bool, Some, None}
use Rattle.std.specs.Prelude.{Option, Contains}
use Rattle.ux_boxes.specs.declared.place.Place.{Place}
use Rattle.ux_net.specs.declared.net_graph.NetGraph.{NetGraph}
use Rattle.ux_net.specs.declared.net_graph.UnmetState.{UnmetState}
use Rattle.ux_net.specs.declared.state.State.{State}
use Rattle.ux_net.specs.Closings.{closings_at, Ascend}
use Rattle.ux_net.specs.Nets.{graph_at, states_of as net_states}
use Rattle.ux_net.specs.Sound.{IsSound}
use Rattle.ux_net.specs.Whole.{AreAside, unmet_at}
use Rattle.ux_boxes.specs.Numbers.{all_places}
use Rattle.ux_boxes.specs.Places.{places_of, place_grammar}
use Rattle.ux_admission.specs.Admission.{ArePlaceRanks}
use Rattle.ux_admission.specs.Closers.{AreClosers}
use Rattle.ux_admission.specs.ContextClose.{AreClosed}
use Rattle.ux_admission.specs.Uses.{AreLevels}
use Rattle.ux_compile.specs.Ranks.{AreCallsInside, AreAllFit, row_of, AreBuilt}
use Rattle.ux_net.proofs.ClosingsLemmas.{none_ascend}
use Rattle.ux_compile.proofs.ClosingsLaw.{built_tells}
use Rattle.ux_compile.proofs.ClosingsLemmas.{closings_ascend}
use Rattle.ux_compile.proofs.ConstructLaw.{states_few}
use Rattle.ux_compile.proofs.MarkedLaw.{built_is_marked}
use Rattle.ux_compile.proofs.MeasuredLaw.{built_is_measured, built_is_inside}
use Rattle.ux_compile.proofs.StateRanks.{graph_fit, IsRankedNet}
use Rattle.ux_compile.proofs.WholeLaw.{whole_inside}

module _ (graphs : List (List Place)) (rows ranks : List (List ℕ)) (free : List (List Bool))
    (built : List NetGraph) (levels : List ℕ) (fit : AreAllFit graphs)
    (inside : AreCallsInside graphs) (ranked : ArePlaceRanks graphs ranks free)
    (made : AreBuilt graphs rows ranks free built) (closing : AreClosers graphs rows)
    (leveled : AreLevels graphs levels) (closed : AreClosed (place_grammar graphs)) where
  abbrev net : IsRankedNet graphs rows ranks free built
  net = record { fit = fit; inside = inside; ranked = ranked; made = made }

  -- the entries of each graph ascend
  ascends : (g : ℕ) (o : Option NetGraph) → graph_at built g ≡ o → Ascend (closings_at o)
  ascends g None is = none_ascend
  ascends g (Some graph) is =
      subst Ascend (sym (made.each g graph is).closings)
      (closings_ascend (places_of graphs g) (graph_fit net g graph is) (row_of graphs rows g))

  -- nothing is kept aside
  none_aside : (g : ℕ) (o : Option NetGraph) → graph_at built g ≡ o → unmet_at o ≡ []
  none_aside g None is = refl
  none_aside g (Some graph) is = (made.each g graph is).aside

  aside : (g : ℕ) → AreAside (unmet_at (graph_at built g)) (net_states built g)
  aside g =
      subst (λ (l : List UnmetState). AreAside l (net_states built g))
      (sym (none_aside g (graph_at built g) refl))
      (record {
        ascend = λ i j lt within. absurd (omega (arith, within));
        bare = λ entry within. absurd (let lt = within.1 in omega (arith, lt));
      })

  -- the states of a graph can be numbered
  few_states : (g : ℕ) (graph : NetGraph) → graph_at built g ≡ Some graph →
      length graph.states < 4294967296
  few_states g graph there =
      subst (λ (s : List State). length s < 4294967296) (sym (made.each g graph there).states)
      (states_few (places_of graphs g) (graph_fit net g graph there))

  -- the law
  pub built_is_sound : 1 ≤ length graphs → length graphs ≤ 65535 →
      all_places graphs + 1 < 4294967296 → IsSound built
  built_is_sound some few places_few =
      let count = made.count in
      record {
        some = omega arith;
        few = omega arith;
        numbered = few_states;
        inside = built_is_inside graphs rows ranks free built fit inside ranked made;
        measured = built_is_measured graphs rows ranks free built fit inside ranked made;
        marked =
            built_is_marked graphs rows ranks free built levels fit inside ranked made closing leveled
            places_few;
        closings = λ g. ascends g (graph_at built g) refl;
        told = built_tells graphs rows ranks free built fit inside ranked made closing closed;
        aside = aside;
        whole = whole_inside built
            (built_is_inside graphs rows ranks free built fit inside ranked made) few_states
            (λ g graph there. (made.each g graph there).aside);
      }
