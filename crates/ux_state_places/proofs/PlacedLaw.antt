-- The places of graphs, as they are made, stand for the states.
use Rattle.std.proofs.Common.{arith, ◌≡◌, ◌⊎◌, inl, inr, ℕ, zero, suc, ◌<◌, ◌≤◌, List, [], ◌∷◌, length, refl, sym, ap, subst, ◌∙◌, get_or}
use Rattle.std.specs.Prelude.{All, Contains, Some, slice_get}
use Rattle.std.proofs.lemmas.List.Elements.{All-nil, All-cons, All-weaker, All-contains_itself}
use Rattle.std.proofs.lemmas.Option.{same_Some, slice_get_past, slice_get_within}
use Rattle.ux_base.proofs.Lists.{less_or}
use Rattle.ux_net.specs.declared.label.Label.{Label}
use Rattle.ux_net.specs.declared.label.Label.TheVariants.{Call}
use Rattle.ux_net.specs.declared.state.State.{State}
use Rattle.ux_net.specs.declared.state_graph.StateGraph.{StateGraph}
use Rattle.ux_net.specs.Closers.{ClosesInto}
use Rattle.ux_net.specs.Nets.{IsCalled}
use Rattle.ux_net.specs.StateGraphs.{told_in, told_states, AreInsideStates}
use Rattle.ux_net.specs.Words.{Sign, Step, StepGraph, Letter, ordinary, opens, closes, mark_of, Run, stop, along, across, IsBody}
use Rattle.ux_boxes.specs.declared.place.Place.{Place}
use Rattle.ux_boxes.specs.Fit.{IsFitLine, IsFit}
use Rattle.ux_boxes.specs.Places.{places_of, places_in, place_graph, place_grammar, label_lines, place_output, output_in_place, IsPlaceStep}
use Rattle.ux_boxes.proofs.NumbersLemmas.{graph_inside, places_at}
use Rattle.ux_boxes.proofs.StepsLemmas.{step_inside, target_from, line_from}
use Rattle.ux_admission.specs.Admissible.{MovesFreely, along_step, over_context, LeadsFreely, IsMet}
use Rattle.ux_admission.specs.Admission.{row_at}
use Rattle.ux_admission.specs.Cycles.{AreLoopsMet}
use Rattle.ux_admission.proofs.FreeLemmas.{free_ordinary}
use Rattle.ux_state_places.specs.declared.arrival.Arrival.{Arrival}
use Rattle.ux_state_places.specs.declared.arrival.Kind.{Kind}
use Rattle.ux_state_places.specs.Arrivals.{label_of, arriving, hub_arrival, AreArrivals, AreRawPlaces, ArePlacesOf, ArePlaced}
use Rattle.ux_state_places.specs.Standing.{Stand}
use Rattle.ux_state_places.proofs.ArrivalLemmas.{arrival_among, arrival_state, arrivals_some, line_arrival, IsStepOf, edge_or_hub, target_inside}
use Rattle.ux_state_places.proofs.KeptLemmas.{hub_start, state_start, hub_facts, state_inside, steps_are, steps_lift, place_enters, ends_are, finals_are, lines_apart, places_ascend, reached_met, raw_step, step_here, step_why, met_kept, led, reached_inside, kept_len}

-- a run to a place begins there, or a step leads to it
run_into : (g : ℕ) (graph : StepGraph) {a b : ℕ} {w : List Letter} → Run g graph a b w →
    (a ≡ b) ⊎ ((s : Step) × graph.IsStep s × (s.to ≡ b))
run_into g graph stop = inl refl
run_into g graph (along s i m r) = elim (run_into g graph r) [
  | inl e ↦ inr (s, i, e)
  | inr x ↦ inr x
]
run_into g graph (across sign s t i m body j n r) = elim (run_into g graph r) [
  | inl e ↦ inr (t, j, e)
  | inr x ↦ inr x
]

-- a call along an edge is one along a step of its kind
pub called_arriving : (count : ℕ) (x : Label) → IsCalled count x →
    IsCalled count (label_of (arriving x))
called_arriving count (Call h) c = c
called_arriving count x c = tt

-- a line of one label, whose call is of a graph that is there, is fit
pub one_fit : (count : ℕ) (x : Label) → IsCalled count x → IsFitLine count (x ∷ [])
one_fit count x c = record {
  line = record {
    some = omega arith;
    lone = λ more. absurd (omega (arith, more));
    marks = λ more. absurd (omega (arith, more));
  };
  called = All-cons (IsCalled count) x [] c (All-nil (IsCalled count));
}

module _ (graphs : List StateGraph) (inside : AreInsideStates graphs) (g : ℕ)
    (kinds : List Kind) (arrivals : List Arrival)
    (are : AreArrivals (told_states graphs g) kinds arrivals) (raw : List Place)
    (is : AreRawPlaces (told_states graphs g) kinds arrivals raw) where
  -- what the kind of a way calls is there
  arrival_called : (i : ℕ) (x : Arrival) → slice_get arrivals i ≡ Some x →
      IsCalled (length graphs) (label_of x.kind)
  arrival_called i x e = elim (are.made i x e) [
    | inl is_hub ↦
        subst (λ (k : Kind). IsCalled (length graphs) (label_of k)) (sym is_hub) tt
    | inr (n, state, edge, found, has, is_edge) ↦
        subst (λ (y : Arrival). IsCalled (length graphs) (label_of y.kind)) (sym is_edge)
        (called_arriving (length graphs) edge.label (inside.edges g n state edge found has).called)
  ]

  -- so each line of the raw places is fit
  pub raw_line_fit : (n : ℕ) (line : List Label) → Contains (label_lines raw n) line →
      IsFitLine (length graphs) line
  raw_line_fit n line h =
      let x = line_arrival (told_states graphs g) kinds arrivals are raw is n line h in
      let among = arrival_among arrivals n x.0 x.1 in
      subst (IsFitLine (length graphs)) (sym x.2)
      (one_fit (length graphs) (label_of x.0.kind) (arrival_called among.0 x.0 among.1))

module _ (graphs : List StateGraph) (places raws : List (List Place)) (stands hubs : List (List ℕ))
    (g : ℕ) (of : ArePlacesOf raws g (told_states graphs g) (places_of places g) (row_at stands g)
    (row_at hubs g)) where
  abbrev raw : List Place
  raw = places_of raws g

  abbrev kept : List Place
  kept = places_of places g

  abbrev states : List State
  states = told_states graphs g

  -- two lines of a place are one
  one_line : (p : ℕ) (a b : List Label) → Contains (label_lines raw p) a →
      Contains (label_lines raw p) b → a ≡ b
  one_line p a b h k =
      let x = line_arrival states of.kinds of.arrivals of.are raw of.raw p a h in
      let y = line_arrival states of.kinds of.arrivals of.are raw of.raw p b k in
      x.2 ∙ (ap (λ (z : Arrival). label_of z.kind ∷ []) (same_Some x.0 y.0 (sym x.1 ∙ y.1)) ∙ sym y.2)

  -- the line of a step, among the raw places
  raw_line : (s : Step) → IsPlaceStep kept s → Contains (label_lines raw s.to) s.labels
  raw_line s i = (raw_step graphs places raws stands hubs g of s i).line

  -- A place without a mark leads only to places into which contexts open: it is a hub then, and what
  -- leads to that has a mark.
  opening_met : (s : Step) (sign : Sign) (b : ℕ) {w : List Letter} → IsPlaceStep kept s →
      mark_of s.labels ≡ opens sign → ClosesInto (place_grammar places) g s.to b →
      Run g (place_graph kept) b s.from w → IsMet (place_grammar places) g s.from
  opening_met s sign b i m ends r =
      elim (edge_or_hub states of.kinds of.arrivals of.are raw of.raw s o) [
        | inl e ↦ by e.0 (run_into g (place_graph kept) r)
        | inr e ↦ absurd (
            let line = o.line ∙ ap (λ (x : Arrival). label_of x.kind ∷ []) e.1 in
            let both : opens sign ≡ ordinary = sym m ∙ (ap mark_of line ∙ hub_plain) in cc)
      ]
    where
      o : IsStepOf states of.kinds of.arrivals of.are raw of.raw s
      o = step_here graphs places raws stands hubs g of s i

      -- the line of the hub neither opens nor closes a context
      hub_plain : mark_of (label_of (hub_arrival of.kinds o.source.state).kind ∷ []) ≡ ordinary
      hub_plain = of.are.plain o.source.state
          (arrival_state states of.kinds of.arrivals of.are s.from o.source o.from)

      hub_line : (line : List Label) → o.source ≡ hub_arrival of.kinds o.source.state →
          Contains (label_lines raw s.from) line → mark_of line ≡ ordinary
      hub_line line is h =
          let x = line_arrival states of.kinds of.arrivals of.are raw of.raw s.from line h in
          ap mark_of (x.2 ∙ ap (λ (z : Arrival). label_of z.kind ∷ [])
          (same_Some x.0 o.source (sym x.1 ∙ o.from) ∙ is)) ∙ hub_plain

      by : o.source ≡ hub_arrival of.kinds o.source.state →
          (b ≡ s.from) ⊎ ((u : Step) × IsPlaceStep kept u × (u.to ≡ s.from)) →
          IsMet (place_grammar places) g s.from
      by is (inl e) =
          let body : IsBody g (place_graph kept) s.to b ends.0 = ends.1 in
          let line = hub_line body.step.labels is
          (subst (λ n. Contains (label_lines raw n) body.step.labels) (body.after ∙ e)
          (raw_line body.step body.inside)) in
          absurd (let both : closes ≡ ordinary = sym body.closed ∙ line in cc)
      by is (inr (u, j, to)) =
          let line = hub_line u.labels is
          (subst (λ n. Contains (label_lines raw n) u.labels) to (raw_line u j)) in
          let inside = (step_inside raw u (raw_step graphs places raws stands hubs g of u j)).0 in
          elim (step_why graphs places raws stands hubs g of u j) [
            | inl mark ↦ subst (λ n. IsMet (place_grammar places) g n) to
                (met_kept graphs places raws stands hubs g of u.to
                (led graphs places raws stands hubs g of ((of.marked u.from inside).0 mark)
                (along u (raw_step graphs places raws stands hubs g of u j) line stop)))
            | inr (other, sign, has, opening) ↦
                let same = one_line u.to u.labels other (raw_line u j) has in
                absurd (let both : ordinary ≡ opens sign =
                sym line ∙ (ap mark_of same ∙ opening) in cc)
          ]

  -- where what takes nothing leads back to its beginning, a run from some unit leads to it
  pub loop_met : (a b : ℕ) → MovesFreely (place_grammar places) g a b →
      LeadsFreely (place_grammar places) g b a → IsMet (place_grammar places) g a
  loop_met a b (along_step s i f) back =
      let inside = (step_inside raw s (raw_step graphs places raws stands hubs g of s i)).0 in
      elim (step_why graphs places raws stands hubs g of s i) [
        | inl mark ↦ met_kept graphs places raws stands hubs g of s.from
            ((of.marked s.from inside).0 mark)
        | inr (line, sign, has, opening) ↦
            let same = one_line s.to s.labels line (raw_line s i) has in
            let plain = free_ordinary (place_grammar places) s.labels f in
            absurd (let both : ordinary ≡ opens sign =
            sym plain ∙ (ap mark_of same ∙ opening) in cc)
      ]
  loop_met a b (over_context sign s i m ends) back = opening_met s sign b i m ends back.1

  -- the places are fit
  pub kept_fit : AreInsideStates graphs → IsFit (length graphs) kept
  kept_fit inside = record {
    two =
        let len = kept_len graphs places raws stands hubs g of in
        let some = some_arrivals in omega (arith, len, some);
    start = of.kept.lines 0 ∙ (of.raw.lines 0 (hub_arrival of.kinds 0) of.are.start
        ∙ ap (λ (k : Kind). (label_of k ∷ []) ∷ []) of.are.first);
    lines = λ n. All-weaker (Contains (label_lines kept n)) (IsFitLine (length graphs))
        (λ line h. raw_line_fit graphs inside g of.kinds of.arrivals of.are raw of.raw n line
        (subst (λ (l : List (List Label)). Contains l line) (of.kept.lines n) h))
        (label_lines kept n) (All-contains_itself (label_lines kept n));
    inside = λ a b h.
        let r = ((of.kept.targets a b).0 h).0 in
        let low = target_inside states of.kinds of.arrivals of.are raw of.raw a b r in
        let len = of.kept.len in omega (arith, low, len);
  }
    where
      some_arrivals : 0 < length of.arrivals
      some_arrivals = arrivals_some states of.kinds of.arrivals of.are raw of.raw

-- a graph of this number is there, or it has no states, places and rows
record IsAbsent (graphs : List StateGraph) (places : List (List Place))
    (stands hubs : List (List ℕ)) (g : ℕ) : Type 0 where
  no_states : told_states graphs g ≡ []
  no_places : places_of places g ≡ []
  no_stands : row_at stands g ≡ []
  no_hubs : row_at hubs g ≡ []

-- the row past the last is empty
row_past : {A : Type 0} (rows : List (List A)) (n : ℕ) → length rows ≤ n → get_or rows n [] ≡ []
row_past [] n past = refl
row_past (row ∷ rows) zero past = absurd (omega (arith, past))
row_past (row ∷ rows) (suc n) past = row_past rows n (omega (arith, past))

module _ (graphs : List StateGraph) (places : List (List Place)) (stands hubs : List (List ℕ))
    (all : ArePlaced graphs places stands hubs) where
  there_or : (g : ℕ) → ((1 ≤ g) × (g ≤ length graphs)) ⊎ IsAbsent graphs places stands hubs g
  there_or zero = inr (record {
    no_states = refl;
    no_places = refl;
    no_stands = refl;
    no_hubs = refl;
  })
  there_or (suc n) = elim (less_or n (length graphs)) [
    | inl low ↦ inl (omega arith, omega (arith, low))
    | inr past ↦
        let count = all.count in
        let stands_count = all.stands_count in
        let hubs_count = all.hubs_count in
        inr (record {
          no_states = ap told_in (slice_get_past graphs n past);
          no_places = ap places_in (slice_get_past places n (omega (arith, past, count)));
          no_stands = row_past stands n (omega (arith, past, stands_count));
          no_hubs = row_past hubs n (omega (arith, past, hubs_count));
        })
  ]

  state_graph : (g n : ℕ) → n < length (told_states graphs g) → (1 ≤ g) × (g ≤ length graphs)
  state_graph g n inside = elim (there_or g) [
    | inl there ↦ there
    | inr none ↦
        let len = ap (λ (l : List State). length l) none.no_states in
        absurd (omega (arith, inside, len))
  ]

  place_here : (g p : ℕ) → p < length (places_of places g) → (1 ≤ g) × (g ≤ length graphs)
  place_here g p inside =
      let there = graph_inside places g p inside in
      let to = there.1 in
      let count = all.count in
      (there.0, omega (arith, to, count))

  step_graph : (g : ℕ) (s : Step) → IsPlaceStep (places_of places g) s →
      (1 ≤ g) × (g ≤ length graphs)
  step_graph g s i = place_here g s.from (step_inside (places_of places g) s i).0

  abbrev At : (g : ℕ) → (1 ≤ g) × (g ≤ length graphs) →
      ArePlacesOf all.raws g (told_states graphs g) (places_of places g) (row_at stands g)
      (row_at hubs g)
  At g there = all.each g there.0 there.1

  -- in an absent graph everything is empty
  none_of : {A : Type 0} (f : List Place → A) (x : A) (g : ℕ) → f [] ≡ x →
      IsAbsent graphs places stands hubs g → f (places_of places g) ≡ x
  none_of f x g e none = ap f none.no_places ∙ e

  pub placed_stands : Stand graphs places stands hubs
  placed_stands = record {
    count = all.count;
    standing = record {
      len = all.stands_count;
      row = λ g. elim (there_or g) [
        | inl there ↦
            let of = At g there in
            of.standing.len ∙ sym (of.kept.len ∙ of.raw.len)
        | inr none ↦ ap (λ (l : List ℕ). length l) none.no_stands
            ∙ sym (ap (λ (l : List Place). length l) none.no_places)
      ];
    };
    have_hubs = record {
      len = all.hubs_count;
      row = λ g. elim (there_or g) [
        | inl there ↦ let of = At g there in of.have_hubs.len ∙ of.are.count
        | inr none ↦ ap (λ (l : List ℕ). length l) none.no_hubs
            ∙ sym (ap (λ (l : List State). length l) none.no_states)
      ];
    };
    quiet = λ g p. elim (there_or g) [
      | inl there ↦ let of = At g there in of.kept.outputs p ∙ of.raw.quiet p
      | inr none ↦ none_of (λ (ps : List Place). place_output ps p) [] g
          (ap output_in_place (slice_get_past [] p (omega arith))) none
    ];
    bare = λ g. elim (there_or g) [
      | inl there ↦ let of = At g there in of.kept.lines 1 ∙ of.raw.bare
      | inr none ↦ none_of (λ (ps : List Place). label_lines ps 1) [] g refl none
    ];
    start = λ g. elim (there_or g) [
      | inl there ↦ hub_start graphs places all.raws stands hubs g (At g there)
      | inr none ↦ ap (λ (l : List ℕ). get_or l 0 0) none.no_hubs
    ];
    first = λ g. elim (there_or g) [
      | inl there ↦ state_start graphs places all.raws stands hubs g (At g there)
      | inr none ↦ ap (λ (l : List ℕ). get_or l 0 0) none.no_stands
    ];
    hub = λ g n inside. hub_facts graphs places all.raws stands hubs g
        (At g (state_graph g n inside)) n inside;
    inside = λ g p inside. state_inside graphs places all.raws stands hubs g
        (At g (place_here g p inside)) p inside;
    steps = λ g s i. steps_are graphs places all.raws stands hubs g (At g (step_graph g s i)) s i;
    lifts = λ g t i why. steps_lift graphs places all.raws stands hubs g
        (At g (state_graph g t.from (slice_get_within (told_states graphs g) t.from i.state i.found)))
        t i why;
    enters = λ g p other e. place_enters graphs places all.raws stands hubs g
        (At g (place_here g p (reached_inside (places_of places g) p e))) p other e;
    ends = λ g p e. ends_are graphs places all.raws stands hubs g
        (At g (place_here g p (target_from (places_of places g) p 1 e.1))) p e;
    finals = λ g n final e. finals_are graphs places all.raws stands hubs g
        (At g (state_graph g n
        (slice_get_within (told_states graphs g) n final.state final.found))) n final e;
    apart = λ g p q line h k same. lines_apart graphs places all.raws stands hubs g
        (At g (place_here g p (line_from (places_of places g) p line h))) p q line h k same;
    order = λ g p q inside there low. places_ascend graphs places all.raws stands hubs g
        (At g (place_here g p inside)) p q inside there low;
    met = λ g p inside other. reached_met graphs places all.raws stands hubs g
        (At g (place_here g p inside)) p inside;
  }

  pub placed_loops : AreLoopsMet places
  placed_loops g a b m back =
      loop_met graphs places all.raws stands hubs g (At g (step_graph g (step_in m).0 (step_in m).1))
      a b m back
    where
      step_in : {a b : ℕ} → MovesFreely (place_grammar places) g a b →
          (s : Step) × IsPlaceStep (places_of places g) s
      step_in (along_step s i f) = (s, i)
      step_in (over_context sign s i m ends) = (s, i)

  pub placed_fit : AreInsideStates graphs → All (IsFit (length places)) places
  placed_fit inside n d low =
      let count = all.count in
      subst (IsFit (length places)) (places_at places n d low)
      (subst (λ k. IsFit k (places_of places (suc n))) (sym count)
      (kept_fit graphs places all.raws stands hubs (suc n)
      (all.each (suc n) (omega arith) (omega (arith, low, count))) inside))
