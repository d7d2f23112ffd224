-- Where no context of the places is refused, none of the states that are made of them is.
use Rattle.std.proofs.Common.{arith, ◌≡◌, ◌≢◌, ◌⊎◌, inl, inr, ℕ, zero, suc, ◌<◌, ◌≤◌, List, [], ◌∷◌, ◌++◌, ◌+◌, true, Some, None, refl, sym, ap, subst, ◌∙◌, length, map, get_or}
use Rattle.std.specs.Prelude.{Bool, Option, slice_get}
use Rattle.std.specs.Option.{option_map}
use Rattle.std.proofs.lemmas.List.{length-map}
use Rattle.std.proofs.lemmas.Option.{slice_get-map, slice_get_within, slice_get_cases}
use Rattle.std.proofs.Math.Path.{fun_ext}
use Rattle.ux_boxes.specs.declared.place.Place.{Place}
use Rattle.ux_boxes.specs.Places.{place_grammar, places_of}
use Rattle.ux_net.specs.declared.net_graph.NetGraph.{NetGraph}
use Rattle.ux_net.specs.declared.net_graph.UnmetState.{UnmetState}
use Rattle.ux_net.specs.declared.state.State.{State}
use Rattle.ux_net.specs.declared.state_graph.StateGraph.{StateGraph}
use Rattle.ux_net.specs.Closers.{ClosesInto, OpensInto}
use Rattle.ux_net.specs.Nets.{IsNetEnd, IsNetStep, graph_at, net_grammar, net_graph, states_in, states_of as net_states}
use Rattle.ux_net.specs.Sound.{IsSound}
use Rattle.ux_net.specs.StateGraphs.{state_grammar, told_at, told_in, told_states}
use Rattle.ux_net.specs.Whole.{told_graph, whole_from, whole_states}
use Rattle.ux_net.specs.Words.{Sign, negative, Letter, context, put_by, Step, StepGraph, Grammar, HasPlace, IsBody, Run, stop, along, across, ordinary, opens, mark_of}
use Rattle.ux_net.proofs.RefineLemmas.{Refines, letters_along}
use Rattle.ux_admission.specs.ContextClose.{AreClosed, IsBadContext, IsClosedTwice, IsNeverClosed, IsNeverOpened, IsOpenAtEnd}
use Rattle.ux_admission.specs.SoundGrammar.{IsSoundGrammar}
use Rattle.ux_compile.specs.Construct.{AreFit, has_state, number, states_of}
use Rattle.ux_compile.specs.Ranks.{AreAllFit, AreBuilt}
use Rattle.ux_compile.proofs.ConstructLaw.{Ahead, closes_back, closes_forth, drawn, has_line, number_in, of_label, old_step, refines, starts}
use Rattle.ux_compile.proofs.FreeFalls.{measured_admissible}
use Rattle.ux_compile.proofs.LevelFalls.{no_recursion}

-- A run of a graph that refines another is one of the other, but for what leads on from its end.
module _ (old : Grammar) (names : (g place : ℕ) → ℕ) (g : ℕ)
    (Leads : ℕ → ℕ → List Letter → Type 0) (new : StepGraph)
    (refined : Refines old names g Leads new) where
  record ComesFrom (m b : ℕ) : Type 0 where
    pub last : ℕ
    pub rest : List Letter
    pub ahead : Leads m last rest
    pub word : List Letter
    pub run : Run g (old.graph g) b last word

  comes_from : {n m : ℕ} {w : List Letter} → Run g new n m w → (b : ℕ) (u : List Letter) →
      Leads n b u → ComesFrom m b
  comes_from stop b u ahead =
      record { last = b; rest = u; ahead = ahead; word = []; run = stop }
  comes_from (along t inside mark run) b u ahead = elim (refined.back t b u inside mark ahead) [
    | inl h ↦ comes_from run b h.0 h.1
    | inr h ↦
        let s = h.1 in
        let r = comes_from run s.to h.5 h.6 in
        let word = letters_along s ++ r.word in
        record {
          last = r.last;
          rest = r.rest;
          ahead = r.ahead;
          word = word;
          run = subst (λ x. Run g (old.graph g) x r.last word) h.4 (along s h.2 h.3 r.run);
        }
  ]
  comes_from (across sign t t' inside mark body inside' mark' run) b u ahead =
      let o = refined.back_opens t sign b u inside mark ahead in
      let s = o.1 in
      let from : HasPlace old g s.from =
      subst (λ n. HasPlace old g n) (sym o.3) (refined.place t.from b u ahead) in
      let opening = refined.keeps s from o.2 in
      let i = comes_from body s.to []
      (subst (λ n. Leads n s.to []) (sym o.4.to) (refined.here s.to opening)) in
      let c = refined.back_closes t' i.last i.rest inside' mark' i.ahead in
      let s' = c.1 in
      let from' : HasPlace old g s'.from =
      subst (λ n. HasPlace old g n) (sym c.3) (refined.place t'.from i.last i.rest i.ahead) in
      let closing = refined.keeps s' from' c.2 in
      let r = comes_from run s'.to []
      (subst (λ n. Leads n s'.to []) (sym c.4.to) (refined.here s'.to closing)) in
      let word = put_by s ++ context sign g s.to s'.to ∷ r.word in
      record {
        last = r.last;
        rest = r.rest;
        ahead = r.ahead;
        word = word;
        run = subst (λ x. Run g (old.graph g) x r.last word) o.3
            (across sign s s' o.2 (sym o.4.mark ∙ mark)
            (subst (λ x. Run g (old.graph g) s.to x i.word) (sym c.3) i.run) c.2
            (sym c.4.mark ∙ mark') r.run);
      }

-- A graph whose states are made of places.
module _ (graphs : List (List Place)) (grammar : Grammar) (g : ℕ) (fit : AreFit (places_of graphs g))
    (same : grammar.graph g ≡ net_graph (states_of (places_of graphs g)))
    (closed : AreClosed (place_grammar graphs)) where
  abbrev here : List Place
  here = places_of graphs g

  abbrev new : StepGraph
  new = net_graph (states_of here)

  step_of : (s : Step) → (grammar.graph g).IsStep s → IsNetStep (states_of here) s
  step_of s inside = subst (λ (graph : StepGraph). graph.IsStep s) same inside

  -- a context opens into a state where one opens into its place
  record OpensAt (sign : Sign) (node : ℕ) : Type 0 where
    pub place : ℕ
    pub has : has_state here place ≡ true
    pub at : node ≡ number here place
    pub opening : OpensInto (place_grammar graphs) g sign place

  opens_at : (sign : Sign) (node : ℕ) → OpensInto grammar g sign node → OpensAt sign node
  opens_at sign node into =
      let step = step_of into.step into.of_graph in
      let mark : mark_of (step.edge.label ∷ []) ≡ opens sign =
      sym (ap mark_of step.label) ∙ into.opens in
      let o = of_label here fit into.step.from step.state step.edge step.found step.inside in
      let d = drawn here fit into.step.from step.edge o
      (λ plain. let both : opens sign ≡ ordinary = sym mark ∙ plain in cc) in
      record {
        place = o.place;
        has = has_line here fit o.place o.line o.inside;
        at = sym into.to ∙ (step.to ∙ d.leads);
        opening = record {
          step = old_step here fit d.from o.place o.line;
          of_graph = d.step;
          to = refl;
          opens = d.mark ∙ mark;
        };
      }

  body_of : (a n b : ℕ) (word : List Letter) → a ≡ b → IsBody g (grammar.graph g) a n word →
      IsBody g new b n word
  body_of a n b word at body =
      subst (λ x. IsBody g new x n word) at
      (subst (λ (graph : StepGraph). IsBody g graph a n word) same body)

  never_closed : (node : ℕ) → IsNeverClosed grammar g node → ⊥
  never_closed node bad =
      let o = opens_at bad.sign node bad.opening in
      closed g o.place (inl (inl (record {
        sign = bad.sign;
        opening = o.opening;
        never = λ c into.
            let f = closes_forth graphs g fit o.place c o.has into in
            bad.never (number here c) (
              f.1,
              subst (λ (graph : StepGraph). IsBody g graph node (number here c) f.1) (sym same)
                  (subst (λ x. IsBody g new x (number here c) f.1) (sym o.at) f.2),
            );
      })))

  open_at_end : (node : ℕ) → IsOpenAtEnd grammar g node → ⊥
  open_at_end node bad =
      let o = opens_at bad.sign node bad.opening in
      let run : Run g new (number here o.place) bad.last bad.word =
      subst (λ x. Run g new x bad.last bad.word) o.at
      (subst (λ (graph : StepGraph). Run g graph node bad.last bad.word) same bad.run) in
      let ends : IsNetEnd (states_of here) bad.last =
      subst (λ (graph : StepGraph). graph.IsEnd bad.last) same bad.ends in
      let refined = refines graphs g fit in
      let came = comes_from (place_grammar graphs) (number_in graphs) g (Ahead here fit) new refined
      run o.place [] (o.has, inl (refl, refl)) in
      let end = refined.ends_back bad.last came.last came.rest came.ahead ends in
      closed g o.place (inl (inr (record {
        sign = bad.sign;
        opening = o.opening;
        last = came.last;
        ends = end.1;
        word = came.word;
        run = came.run;
      })))

  closed_twice : (node : ℕ) → IsClosedTwice grammar g node → ⊥
  closed_twice node bad =
      let o = opens_at negative node bad.opening in
      let one = closes_back graphs g fit o.place bad.first o.has bad.into_first.0
      (body_of node bad.first (number here o.place) bad.into_first.0 o.at bad.into_first.1) in
      let two = closes_back graphs g fit o.place bad.second o.has bad.into_second.0
      (body_of node bad.second (number here o.place) bad.into_second.0 o.at bad.into_second.1) in
      closed g o.place (inr (inl (record {
        opening = o.opening;
        first = one.0;
        second = two.0;
        apart = λ is. bad.apart (one.2 ∙ (ap (number here) is ∙ sym two.2));
        into_first = one.3;
        into_second = two.3;
      })))

  never_opened : (node : ℕ) → IsNeverOpened grammar g node → ⊥
  never_opened node bad =
      let start : (grammar.graph g).start ≡ number here 0 =
      ap (λ (graph : StepGraph). graph.start) same in
      let one = closes_back graphs g fit 0 node (starts here fit) bad.0
      (body_of (grammar.graph g).start node (number here 0) bad.0 start bad.1) in
      closed g one.0 (inr (inr one.3))

  pub no_bad_context : (node : ℕ) → IsBadContext grammar g node → ⊥
  no_bad_context node (inl (inl bad)) = never_closed node bad
  no_bad_context node (inl (inr bad)) = open_at_end node bad
  no_bad_context node (inr (inl bad)) = closed_twice node bad
  no_bad_context node (inr (inr bad)) = never_opened node bad

-- A graph without states.
module _ (grammar : Grammar) (g : ℕ) (same : grammar.graph g ≡ net_graph []) where
  no_step : (s : Step) → (grammar.graph g).IsStep s → ⊥
  no_step s inside =
      let step : IsNetStep [] s = subst (λ (graph : StepGraph). graph.IsStep s) same inside in
      let within = slice_get_within [] s.from step.state step.found in
      absurd (omega (arith, within))

  pub no_context : (node : ℕ) → IsBadContext grammar g node → ⊥
  no_context node (inl (inl bad)) = no_step bad.opening.step bad.opening.of_graph
  no_context node (inl (inr bad)) = no_step bad.opening.step bad.opening.of_graph
  no_context node (inr (inl bad)) = no_step bad.opening.step bad.opening.of_graph
  no_context node (inr (inr bad)) = no_step bad.1.step bad.1.inside

-- A net that is built of places of which no context is refused.
module _ (graphs : List (List Place)) (rows ranks : List (List ℕ)) (free : List (List Bool))
    (net : List NetGraph) (fit : AreAllFit graphs) (made : AreBuilt graphs rows ranks free net)
    (closed : AreClosed (place_grammar graphs)) where
  closed_at : (g : ℕ) (o : Option NetGraph) → graph_at net g ≡ o → (node : ℕ) →
      IsBadContext (net_grammar net) g node → ⊥
  closed_at g None is node bad =
      no_context (net_grammar net) g (ap (λ (o : Option NetGraph). net_graph (states_in o)) is)
      node bad
  closed_at zero (Some graph) is node bad = cc
  closed_at (suc n) (Some graph) is node bad =
      let within = slice_get_within net n graph is in
      let count = made.count in
      no_bad_context graphs (net_grammar net) (suc n)
      (fit (suc n) (omega arith) (omega (arith, within, count)))
      (ap (λ (o : Option NetGraph). net_graph (states_in o)) is
      ∙ ap net_graph (made.each (suc n) graph is).states) closed node bad

  built_closed : AreClosed (net_grammar net)
  built_closed g node bad = closed_at g (graph_at net g) refl node bad

  -- with nothing kept aside, the states are those that are told
  bare_whole : (n : ℕ) (states : List State) → whole_from [] n states ≡ states
  bare_whole n [] = refl
  bare_whole n (state ∷ states) =
      ap (λ (s : List State). state ∷ s) (bare_whole (n + 1) states)

  told_same : (graph : NetGraph) → graph.unmet ≡ [] → whole_states graph ≡ graph.states
  told_same graph none =
      ap (λ (u : List UnmetState). whole_from u 0 graph.states) none ∙ bare_whole 0 graph.states

  states_told : (g : ℕ) → net_states net g ≡ told_states (map told_graph net) g
  states_told zero = refl
  states_told (suc n) = by (slice_get net n) refl
    where
      by : (o : Option NetGraph) → slice_get net n ≡ o →
          net_states net (suc n) ≡ told_states (map told_graph net) (suc n)
      by None is =
          ap states_in is
          ∙ sym (ap told_in (slice_get-map told_graph net n ∙ ap (option_map told_graph) is))
      by (Some graph) is =
          ap states_in is
          ∙ (sym (told_same graph (made.each (suc n) graph is).aside)
          ∙ sym (ap told_in (slice_get-map told_graph net n ∙ ap (option_map told_graph) is)))

  grammar_told : net_grammar net ≡ state_grammar (map told_graph net)
  grammar_told =
      let G : ℕ → (ℕ → List State) → Grammar =
      λ n states. record { count = n; graph = λ g. net_graph (states g) } in
      ap (λ n. G n (net_states net)) (sym (length-map net told_graph))
      ∙ ap (G (length (map told_graph net))) (fun_ext states_told)

  -- the law
  pub built_is_admitted : IsSound net → IsSoundGrammar (state_grammar (map told_graph net))
  built_is_admitted sound =
      subst (λ (grammar : Grammar). IsSoundGrammar grammar) grammar_told (record {
        contexts = record {
          closed = built_closed;
          no_recursion = no_recursion net sound.marked;
        };
        admissible = measured_admissible net sound.measured;
      })
