-- The theorem by which a search knows where to go on behind a context that may not follow: a net that
-- is built of places, of which no context is refused, tells the one state into which it is closed.
use Rattle.std.proofs.Common.{◌≡◌, ℕ, ◌<◌, List, [], ◌∷◌, refl, sym, ◌∙◌, ap, subst, inl, inr, length, get_or, Bool, true, cond, Some}
use Rattle.std.specs.Prelude.{Option, Contains}
use Rattle.std.specs.List.{range_with_len}
use Rattle.std.proofs.lemmas.List.{get_or_default}
use Rattle.std.proofs.lemmas.List.Folds.{list_any_at}
use Rattle.ux_base.proofs.Lists.{same_or, nothing_in, contains_first}
use Rattle.ux_net.specs.declared.label.Label.{Label}
use Rattle.ux_net.specs.declared.label.Label.TheVariants.{Positive, Negative, ContextEnd}
use Rattle.ux_net.specs.declared.net_graph.Closing.{Closing}
use Rattle.ux_net.specs.declared.net_graph.NetGraph.{NetGraph}
use Rattle.ux_boxes.specs.declared.place.Place.{Place}
use Rattle.ux_net.specs.declared.state.Edge.{Edge}
use Rattle.ux_net.specs.declared.state.State.{State}
use Rattle.ux_admission.specs.Admission.{ArePlaceRanks}
use Rattle.ux_net.specs.Closers.{ClosesInto, OpensInto}
use Rattle.ux_admission.specs.Closers.{AreClosers}
use Rattle.ux_net.specs.Closings.{closing_in, closings_at as told_by, IsClosedInto, TellsClosings}
use Rattle.ux_compile.specs.Construct.{has_state, number, line_at, states_of, AreFit}
use Rattle.ux_admission.specs.ContextClose.{AreClosed}
use Rattle.ux_admission.specs.ToldClosings.{is_refusing, is_refused, closing_from, closings_at, closings_of}
use Rattle.ux_net.specs.Nets.{net_graph, net_grammar, states_of as net_states}
use Rattle.ux_boxes.specs.Places.{label_lines, places_of, place_grammar}
use Rattle.ux_compile.specs.Ranks.{AreCallsInside, AreAllFit, row_of, AreBuilt}
use Rattle.ux_net.specs.Words.{negative, opens, mark_of, IsBody}
use Rattle.ux_net.proofs.ClosingsLemmas.{told_at}
use Rattle.ux_compile.proofs.ClosingsLemmas.{closings_ascend}
use Rattle.ux_compile.proofs.ConstructLaw.{has_line, old_step, OfLabel, of_label, IsDrawn, drawn, closes_forth, closes_back}
use Rattle.ux_base.proofs.JoinedLists.{contains_joined, contains_range}
use Rattle.ux_compile.proofs.MeasuredLaw.{in_graph}
use Rattle.ux_compile.proofs.StatesLemmas.{line_there, place_inside}

-- a line that opens a context which may not follow
refusing : (line : List Label) → mark_of line ≡ opens negative → is_refusing line ≡ true
refusing [] e = cc
refusing (Negative ∷ []) e = refl
refusing (Negative ∷ y ∷ rest) e = cc
refusing (Positive ∷ []) e = cc
refusing (Positive ∷ y ∷ rest) e = cc
refusing (ContextEnd ∷ []) e = cc
refusing (ContextEnd ∷ y ∷ rest) e = cc
refusing (x ∷ rest) e = cc

module _ (graphs : List (List Place)) (rows ranks : List (List ℕ)) (free : List (List Bool))
    (built : List NetGraph) (fit : AreAllFit graphs) (inside : AreCallsInside graphs)
    (ranked : ArePlaceRanks graphs ranks free) (made : AreBuilt graphs rows ranks free built)
    (closing : AreClosers graphs rows) (closed : AreClosed (place_grammar graphs)) where
  abbrev places : ℕ → List Place
  places g = places_of graphs g

  abbrev row : (g b : ℕ) → List ℕ
  row g b = row_of graphs rows g b

  -- what is told for the state of a place into which such a context opens
  told : (g b c : ℕ) (later : List ℕ) (graph : NetGraph) → AreFit (places g) →
      graph.closings ≡ closings_of (number (places g)) (places g) (row g) → has_state (places g) b ≡ true →
      is_refused (places g) b ≡ true → row g b ≡ c ∷ later →
      closing_in graph.closings (number (places g) b) ≡ Some (number (places g) c)
  told g b c later graph ok same has refused is =
      let entry : Closing =
      record { opening = number (places g) b; closing = number (places g) c } in
      let here : closings_at (number (places g)) (places g) (row g) b ≡ entry ∷ [] =
      ap (λ (t : Bool). cond t (closing_from (number (places g)) b (row g b)) []) refused
      ∙ ap (closing_from (number (places g)) b) is in
      let within : Contains (closings_of (number (places g)) (places g) (row g)) entry =
      contains_joined (closings_at (number (places g)) (places g) (row g)) (range_with_len 0 (length (places g))) b entry
      (contains_range (length (places g)) b (place_inside (places g) b has))
      (subst (λ (l : List Closing). Contains l entry) (sym here) (contains_first entry [])) in
      let found = told_at (closings_of (number (places g)) (places g) (row g)) (closings_ascend (places g) ok (row g))
      within.0 within.1 in
      subst (λ (l : List Closing).
      closing_in l (number (places g) b) ≡ Some (number (places g) c)) (sym same)
      (subst (λ (e : Closing).
      closing_in (closings_of (number (places g)) (places g) (row g)) e.opening ≡ Some e.closing)
      (get_at (closings_of (number (places g)) (places g) (row g)) within.0 entry within.1 within.2) found)
    where
      get_at : (l : List Closing) (i : ℕ) (e : Closing) → i < length l → get_or l i e ≡ e →
          get_or l i (record { opening = 0; closing = 0 }) ≡ e
      get_at l i e lt is = get_or_default l i (record { opening = 0; closing = 0 }) e lt ∙ is

  -- such a context is closed, and into one place
  module _ (g n : ℕ) (edge : Edge) (i : (graph : NetGraph)
      × (graph.closings ≡ closings_of (number (places g)) (places g) (row g))
      × (net_states built g ≡ states_of (places g)) × AreFit (places g)) where
    abbrev ok : AreFit (places g)
    ok = i.3

    opened : (o : OfLabel (places g) ok n edge) → edge.label ≡ Negative →
        IsDrawn (places g) ok n edge o.place o.line →
        mark_of (line_at (places g) o.place o.line) ≡ opens negative
    opened o is d = d.mark ∙ ap (λ (x : Label). mark_of (x ∷ [])) is

    opening : (o : OfLabel (places g) ok n edge) → edge.label ≡ Negative →
        IsDrawn (places g) ok n edge o.place o.line →
        OpensInto (place_grammar graphs) g negative o.place
    opening o is d = record {
      step = old_step (places g) ok d.from o.place o.line;
      of_graph = d.step;
      to = refl;
      opens = opened o is d;
    }

    into_net : (b c : ℕ) → has_state (places g) b ≡ true → edge.target ≡ number (places g) b →
        ClosesInto (place_grammar graphs) g b c →
        ClosesInto (net_grammar built) g edge.target (number (places g) c)
    into_net b c has leads into =
        let there = closes_forth graphs g ok b c has into in (
          there.1,
          subst (λ (states : List State).
              IsBody g (net_graph states) edge.target (number (places g) c) there.1) (sym i.2)
              (subst (λ m. IsBody g (net_graph (states_of (places g))) m (number (places g) c) there.1)
              (sym leads) there.2),
        )

    from_net : (b m : ℕ) → has_state (places g) b ≡ true → edge.target ≡ number (places g) b →
        ClosesInto (net_grammar built) g edge.target m →
        (x : ℕ) × (m ≡ number (places g) x) × ClosesInto (place_grammar graphs) g b x
    from_net b m has leads into =
        let body : IsBody g (net_graph (states_of (places g))) (number (places g) b) m into.0 =
        subst (λ k. IsBody g (net_graph (states_of (places g))) k m into.0) leads
        (subst (λ (states : List State). IsBody g (net_graph states) edge.target m into.0) i.2
        into.1) in
        let x = closes_back graphs g ok b m has into.0 body in
        (x.0, x.2, x.3)

    tells : (o : OfLabel (places g) ok n edge) → edge.label ≡ Negative →
        (target : ℕ) × (closing_in i.0.closings edge.target ≡ Some target)
        × IsClosedInto built g edge.target target
    tells o is = go (row g o.place) refl
      where
        d : IsDrawn (places g) ok n edge o.place o.line
        d = drawn (places g) ok n edge o (λ plain.
            let mark = ap (λ (x : Label). mark_of (x ∷ [])) is in absurd cc)

        has : has_state (places g) o.place ≡ true
        has = has_line (places g) ok o.place o.line o.inside

        refused : is_refused (places g) o.place ≡ true
        refused =
            let there = line_there (places g) o.place o.line o.inside in
            list_any_at is_refusing (label_lines (places g) o.place) there.0
            (line_at (places g) o.place o.line) there.1 (ap is_refusing there.2
            ∙ refusing (line_at (places g) o.place o.line) (opened o is d))

        in_row : (c : ℕ) → ClosesInto (place_grammar graphs) g o.place c → Contains (row g o.place) c
        in_row c into = (closing.row g o.place c (place_inside (places g) o.place has)).1 into

        go : (list : List ℕ) → row g o.place ≡ list →
            (target : ℕ) × (closing_in i.0.closings edge.target ≡ Some target)
            × IsClosedInto built g edge.target target
        go [] none = absurd (closed g o.place (inl (inl (record {
          sign = negative;
          opening = opening o is d;
          never = λ c into. nothing_in {x = c}
              (subst (λ (l : List ℕ). Contains l c) none (in_row c into));
        }))))
        go (c ∷ later) first =
            let into : ClosesInto (place_grammar graphs) g o.place c =
            (closing.row g o.place c (place_inside (places g) o.place has)).0
            (subst (λ (l : List ℕ). Contains l c) (sym first) (contains_first c later)) in (
              number (places g) c,
              ap (closing_in i.0.closings) d.leads ∙ told g o.place c later i.0 ok i.1 has refused first,
              record {
                into = into_net o.place c has d.leads into;
                only = λ m other.
                    let x = from_net o.place m has d.leads other in
                    x.1 ∙ ap (number (places g)) (elim (same_or x.0 c) [
                      | inl same ↦ same
                      | inr apart ↦ absurd (closed g o.place (inr (inl (record {
                        opening = opening o is d;
                        first = x.0;
                        second = c;
                        apart = apart;
                        into_first = x.2;
                        into_second = into;
                      }))))
                    ]);
              },
            )

  -- the law
  pub built_tells : TellsClosings built
  built_tells g n state edge found within is =
      let i = in_graph graphs rows ranks free built fit inside ranked made g n state found in
      let same = (made.each g i.graph i.there).closings in
      let r = tells g n edge (i.graph, same, i.same, i.ok)
      (of_label (places g) i.ok n state edge i.found within) is in (
        r.0,
        ap (λ (o : Option NetGraph). closing_in (told_by o) edge.target) i.there ∙ r.1,
        r.2,
      )
