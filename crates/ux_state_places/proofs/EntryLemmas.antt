-- Units of the states and of the places: the start, and where contexts open.
use Rattle.std.proofs.Common.{arith, ◌≡◌, ◌≢◌, inl, inr, ℕ, zero, suc, ◌<◌, ◌≤◌, List, [], ◌∷◌, length, map, refl, sym, ap, subst, ◌∙◌}
use Rattle.std.specs.Prelude.{Contains, Option, Some, None}
use Rattle.std.proofs.lemmas.Option.{slice_get_cases}
use Rattle.ux_base.proofs.Lists.{nothing_in, first_or_later}
use Rattle.ux_net.specs.declared.label.Label.{Label}
use Rattle.ux_net.specs.declared.label.Label.TheVariants.{Empty, Call}
use Rattle.ux_net.specs.declared.state_graph.StateGraph.{StateGraph}
use Rattle.ux_net.specs.Closers.{OpensInto}
use Rattle.ux_net.specs.Nets.{IsNetStep, IsCalled}
use Rattle.ux_net.specs.StateGraphs.{told_at, told_in, told_states, state_grammar, AreInsideStates}
use Rattle.ux_net.specs.Words.{Sign, Step, Run, stop}
use Rattle.ux_boxes.specs.declared.place.Place.{Place}
use Rattle.ux_boxes.specs.Places.{places_of, place_graph, place_grammar, IsPlaceStep}
use Rattle.ux_boxes.specs.Refusing.{IsFirst}
use Rattle.ux_admission.specs.Admissible.{IsUnit}
use Rattle.ux_boxes.proofs.StepsLemmas.{step_inside}
use Rattle.ux_state_places.specs.Kinds.{kind_of}
use Rattle.ux_state_places.specs.Standing.{Stand}
use Rattle.ux_state_places.proofs.KindLemmas.{call_kind}
use Rattle.ux_state_places.proofs.RunLifts.{hub, state, Same, IsMetState, IsMetPlace, arrives, met_state, not_end, same_mark, opened_place}
use Rattle.ux_state_places.proofs.RunProjects.{opening_same, start_met}

-- the only label of a line
pub only_label : (line : List Label) (x y : Label) → line ≡ x ∷ [] → Contains line y → x ≡ y
only_label line x y e h =
    elim (first_or_later x [] y (subst (λ (l : List Label). Contains l y) e h)) [
      | inl same ↦ same
      | inr none ↦ absurd (nothing_in {x = y} none)
    ]

-- each graph has a state
pub states_some : (graphs : List StateGraph) → AreInsideStates graphs → (h : ℕ) → 1 ≤ h →
    h ≤ length graphs → 0 < length (told_states graphs h)
states_some graphs inside h from to = by (told_at graphs h) refl
  where
    by : (o : Option StateGraph) → told_at graphs h ≡ o → 0 < length (told_states graphs h)
    by None none = absurd (missing h from to none)
      where
        missing : (h : ℕ) → 1 ≤ h → h ≤ length graphs → told_at graphs h ≡ None → ⊥
        missing zero from to none = absurd (omega (arith, from))
        missing (suc n) from to none = elim (slice_get_cases graphs n).1 [
          | inl x ↦ let both = sym none ∙ x.2 in cc
          | inr past ↦ let p = past.0 in absurd (omega (arith, p, to))
        ]
    by (Some graph) found =
        subst (λ o. 0 < length (told_in o)) (sym found) (inside.start h graph found)

module _ (graphs : List StateGraph) (places : List (List Place)) (stands hubs : List (List ℕ))
    (stand : Stand graphs places stands hubs) where
  abbrev pub state_in : (g p : ℕ) → ℕ
  state_in g p = state graphs places stands hubs stand g p

  abbrev pub hub_in : (g n : ℕ) → ℕ
  hub_in g n = hub graphs places stands hubs stand g n

  abbrev pub Met : (g n : ℕ) → Type 0
  Met g n = IsMetState graphs places stands hubs stand g n

  -- A place is the first of a unit that begins at the state, and leads to its hub.
  pub record IsEntry (g p n : ℕ) : Type 0 where
    pub unit : IsUnit (place_grammar places) g p
    pub inside : p < length (places_of places g)
    pub stands_for : state_in g p ≡ n
    pub met : Met g n
    pub enters : Run g (place_graph (places_of places g)) p (hub_in g n) []

  -- the start of a graph
  pub start_entry : (g : ℕ) → 0 < length (told_states graphs g) → IsEntry g 0 0
  start_entry g some =
      let h = stand.hub g 0 some in
      record {
        unit = inl refl;
        inside = subst (λ n. n < length (places_of places g)) (stand.start g) h.0;
        stands_for = stand.first g;
        met = start_met graphs places stands hubs stand g some;
        enters = subst (λ n. Run g (place_graph (places_of places g)) 0 n []) (sym (stand.start g))
            stop;
      }

  -- a place into which a context opens
  pub opened_entry : (g : ℕ) (sign : Sign) (p : ℕ) → OpensInto (place_grammar places) g sign p →
      OpensInto (state_grammar graphs) g sign (state_in g p) × IsEntry g p (state_in g p)
  opened_entry g sign p o =
      let x = opening_same graphs places stands hubs stand g o.step sign o.of_graph o.opens in
      let inside = subst (λ n. n < length (places_of places g)) o.to
      (step_inside (places_of places g) o.step o.of_graph).1 in
      let other = subst (λ n. n ≢ 1) o.to
      (not_end graphs places stands hubs stand g o.step.to o.step.labels o.of_graph.line) in
      let unit : IsUnit (place_grammar places) g p = inr (sign, o) in
      let there : IsMetPlace graphs places stands hubs stand g p = record {
        inside = inside;
        other = other;
        reached = (stand.met g p inside other).1
            (record { first = p; unit = unit; word = []; run = stop });
      } in (
        record {
          step = x.0;
          of_graph = x.1.of_states;
          to = sym x.1.to ∙ ap (λ n. state_in g n) o.to;
          opens = sym (same_mark graphs places stands hubs stand g o.step x.0 x.1) ∙ o.opens;
        },
        record {
          unit = unit;
          inside = inside;
          stands_for = refl;
          met = met_state graphs places stands hubs stand g p there;
          enters = arrives graphs places stands hubs stand g p there;
        },
      )

  -- a state into which a context opens has such a place
  pub entry_opened : (g : ℕ) (sign : Sign) (n : ℕ) → OpensInto (state_grammar graphs) g sign n →
      (p : ℕ) × OpensInto (place_grammar places) g sign p × IsEntry g p n
  entry_opened g sign n o =
      let x = opened_place graphs places stands hubs stand g o.step sign o.of_graph o.opens in
      let into : OpensInto (place_grammar places) g sign x.step.to = record {
        step = x.step;
        of_graph = x.same.of_places;
        to = refl;
        opens = same_mark graphs places stands hubs stand g x.step o.step x.same ∙ o.opens;
      } in
      let to = x.same.to ∙ o.to in (
        x.step.to,
        into,
        subst (IsEntry g x.step.to) to (opened_entry g sign x.step.to into).1,
      )

  -- the unit of a place is one of the states
  pub unit_back : (g p : ℕ) → IsUnit (place_grammar places) g p →
      IsUnit (state_grammar graphs) g (state_in g p)
  unit_back g p (inl e) = inl (ap (λ n. state_in g n) e ∙ stand.first g)
  unit_back g p (inr o) = inr (o.0, (opened_entry g o.0 p o.1).0)

  -- a unit of the states has a place
  pub unit_forth : (g n : ℕ) → 0 < length (told_states graphs g) →
      IsUnit (state_grammar graphs) g n → (p : ℕ) × IsEntry g p n
  unit_forth g n some (inl e) = (0, subst (IsEntry g 0) (sym e) (start_entry g some))
  unit_forth g n some (inr o) =
      let x = entry_opened g o.0 n o.1 in (x.0, x.2)

  -- what is first among places is first among states
  pub first_states : (IsSo IsToo : (g n : ℕ) → Type 0) →
      ((g p : ℕ) → IsSo g p → (p < length (places_of places g)) × IsToo g (state_in g p)) →
      ((g n : ℕ) → IsToo g n → (p : ℕ) × IsSo g p × (state_in g p ≡ n)) →
      (g p : ℕ) → IsFirst IsSo g p → IsFirst IsToo g (state_in g p)
  first_states IsSo IsToo back forth g p f = record {
    here = (back g p f.here).1;
    first = λ h m low so. let x = forth h m so in f.first h x.0 low x.1;
    least = λ m low so.
        let x = forth g m so in
        f.least x.0 (stand.order g x.0 p (back g x.0 x.1).0 (back g p f.here).0
        (subst (λ k. k < state_in g p) (sym x.2) low)) x.1;
  }

  -- a call along a step of the places is one along the step of the states
  pub called_back : (g h : ℕ) (s : Step) → IsPlaceStep (places_of places g) s →
      Contains s.labels (Call h) →
      (t : Step) × Same graphs places stands hubs stand g s t × (t.labels ≡ Call h ∷ [])
  called_back g h s i has = elim (stand.steps g s i) [
    | inl t ↦ absurd (let e = only_label s.labels Empty (Call h) t.silent has in cc)
    | inr (t, same) ↦
        let label = same.of_states.label in
        let line : s.labels ≡ kind_of same.of_states.edge.label ∷ [] =
        same.kind ∙ ap (λ (l : List Label). map kind_of l) label in
        let is = call_kind same.of_states.edge.label h
        (only_label s.labels (kind_of same.of_states.edge.label) (Call h) line has) in
        (t, same, label ∙ ap (λ (l : Label). l ∷ []) is)
  ]

  -- a call along a step of the states is the one label of its step of the places
  pub called_forth : (g h : ℕ) (s t : Step) → Same graphs places stands hubs stand g s t →
      Contains t.labels (Call h) → s.labels ≡ Call h ∷ []
  called_forth g h s t same has =
      let label = same.of_states.label in
      let is = only_label t.labels same.of_states.edge.label (Call h) label has in
      same.kind ∙ (ap (λ (l : List Label). map kind_of l) label
      ∙ ap (λ (l : Label). kind_of l ∷ []) is)

  -- a graph that is called has a start
  pub called_start : AreInsideStates graphs → (g h : ℕ) (t : Step) →
      IsNetStep (told_states graphs g) t → Contains t.labels (Call h) →
      0 < length (told_states graphs h)
  called_start inside g h t i has =
      let is = only_label t.labels i.edge.label (Call h) i.label has in
      let e = inside.edges g t.from i.state i.edge i.found i.inside in
      let called = subst (λ (l : Label). IsCalled (length graphs) l) is e.called in
      states_some graphs inside h called.0 called.1
