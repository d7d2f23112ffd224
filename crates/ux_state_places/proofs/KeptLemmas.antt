-- The places of a graph that are kept: their steps, and to which of them runs lead.
use Rattle.std.proofs.Common.{arith, ◌≡◌, ◌≢◌, ◌↔◌, ◌⊎◌, inl, inr, ℕ, zero, suc, ◌+◌, ◌<◌, List, [], ◌∷◌, ◌++◌, length, map, refl, sym, ap, subst, ◌∙◌, get_or, true, false}
use Rattle.std.specs.Prelude.{Contains, Some}
use Rattle.std.proofs.lemmas.Option.{same_Some, slice_get_within, slice_get_past}
use Rattle.ux_base.proofs.Lists.{less_or, same_or}
use Rattle.ux_net.specs.declared.label.Label.{Label}
use Rattle.ux_net.specs.declared.label.Label.TheVariants.{Empty}
use Rattle.ux_net.specs.declared.state.Edge.{Edge}
use Rattle.ux_net.specs.declared.state.State.{State}
use Rattle.ux_net.specs.declared.state_graph.StateGraph.{StateGraph}
use Rattle.ux_net.specs.Nets.{IsNetStep, IsNetEnd}
use Rattle.ux_net.specs.StateGraphs.{told_states}
use Rattle.ux_net.specs.Words.{Sign, Step, Letter, opens, mark_of, Run, stop, along, across}
use Rattle.ux_boxes.specs.declared.place.Place.{Place}
use Rattle.ux_boxes.specs.Places.{places_of, place_graph, place_grammar, label_lines, is_reached, reached_in, IsPlaceStep, IsEndPlace}
use Rattle.ux_net.proofs.RunLemmas.{run_joined}
use Rattle.ux_boxes.proofs.StepsLemmas.{step_inside, target_from}
use Rattle.ux_admission.specs.Admissible.{IsUnit, IsMet}
use Rattle.ux_admission.specs.Admission.{row_at}
use Rattle.ux_state_places.specs.declared.arrival.Arrival.{Arrival}
use Rattle.ux_state_places.specs.declared.arrival.Kind.{Kind}
use Rattle.ux_state_places.specs.declared.arrival.Kind.TheVariants as kind
use Rattle.ux_state_places.specs.Arrivals.{label_of, arriving, hub_arrival, edge_arrival, arrival_at, IsOpened, ArePlacesOf}
use Rattle.ux_state_places.specs.Kinds.{kind_of}
use Rattle.ux_state_places.specs.Standing.{IsSameStep, IsToHub, hub_of, state_for}
use Rattle.ux_state_places.proofs.ArrivalLemmas.{label_arriving, kind_same, hub_or, arrival_place, arrival_among, place_arrival, place_once, place_order, arrival_state, arrivals_some, line_arrival, arrival_line, IsStepOf, step_of, edge_or_hub, edge_leads, end_leads, end_back, hub_leads}
use Rattle.ux_state_places.proofs.KindLemmas.{mark_kind}

-- a place that is marked as reached is there
pub reached_inside : (places : List Place) (p : ℕ) → is_reached places p ≡ true →
    p < length places
reached_inside places p e = elim (less_or p (length places)) [
  | inl l ↦ l
  | inr past ↦ absurd (let none : false ≡ true =
      sym (ap reached_in (slice_get_past places p past)) ∙ e in cc)
]

module _ (graphs : List StateGraph) (places raws : List (List Place)) (stands hubs : List (List ℕ))
    (g : ℕ) (of : ArePlacesOf raws g (told_states graphs g) (places_of places g) (row_at stands g)
    (row_at hubs g)) where
  abbrev raw : List Place
  raw = places_of raws g

  abbrev kept : List Place
  kept = places_of places g

  abbrev states : List State
  states = told_states graphs g

  abbrev hub : ℕ → ℕ
  hub n = hub_of graphs places stands hubs g n

  abbrev state : ℕ → ℕ
  state p = state_for graphs places stands hubs g p

  -- there is a state
  pub states_there : 0 < length states
  states_there = of.are.inside 0 (hub_arrival of.kinds 0) of.are.start

  some : 0 < length of.arrivals
  some = arrivals_some states of.kinds of.arrivals of.are raw of.raw

  pub kept_len : length kept ≡ length of.arrivals + 1
  kept_len = of.kept.len ∙ of.raw.len

  arrival_of : (p : ℕ) → p < length kept → p ≢ 1 →
      (x : Arrival) × (arrival_at of.arrivals p ≡ Some x)
  arrival_of p inside other =
      let len = kept_len in
      place_arrival of.arrivals p some (omega (arith, inside, len)) other

  -- the hub of a state is the place of its way
  pub hub_there : (n : ℕ) → n < length states →
      arrival_at of.arrivals (hub n) ≡ Some (hub_arrival of.kinds n)
  hub_there n inside =
      let count = of.are.count in
      of.have_hubs.hub n (omega (arith, inside, count))

  -- where a state has another way than that into its hub, the latter takes nothing
  own_hub : (p : ℕ) (x : Arrival) → arrival_at of.arrivals p ≡ Some x →
      x ≢ hub_arrival of.kinds x.state → get_or of.kinds x.state kind.Hub ≡ kind.Hub
  own_hub p x at apart =
      let among = arrival_among of.arrivals p x at in
      of.are.alone among.0 x among.1 apart

  -- the place of the hub's way is the hub
  is_hub : (p n : ℕ) → n < length states →
      arrival_at of.arrivals p ≡ Some (hub_arrival of.kinds n) → p ≡ hub n
  is_hub p n inside at =
      place_once states of.kinds of.arrivals of.are p (hub n) (hub_arrival of.kinds n) at
      (hub_there n inside)

  pub hub_start : hub 0 ≡ 0
  hub_start = sym (is_hub 0 0 states_there of.are.start)

  pub state_start : state 0 ≡ 0
  state_start = of.standing.state 0 (hub_arrival of.kinds 0) of.are.start

  pub hub_facts : (n : ℕ) → n < length states →
      (hub n < length kept) × (hub n ≢ 1) × (state (hub n) ≡ n)
  hub_facts n inside =
      let at = hub_there n inside in
      let there = arrival_place of.arrivals (hub n) (hub_arrival of.kinds n) at in
      let low = there.0 in
      let len = kept_len in
      (omega (arith, low, len), there.1, of.standing.state (hub n) (hub_arrival of.kinds n) at)

  pub state_inside : (p : ℕ) → p < length kept → state p < length states
  state_inside p inside = elim (same_or p 1) [
    | inl e ↦
        let last : state p ≡ 0 = ap (λ n. state n) e ∙ of.standing.last in
        let there = states_there in
        omega (arith, last, there)
    | inr other ↦
        let x = arrival_of p inside other in
        subst (λ n. n < length states) (sym (of.standing.state p x.0 x.1))
        (arrival_state states of.kinds of.arrivals of.are p x.0 x.1)
  ]

  -- a step that is kept is one of the raw places
  pub raw_step : (s : Step) → IsPlaceStep kept s → IsPlaceStep raw s
  raw_step s i = record {
    before_end = i.before_end;
    leads = ((of.kept.targets s.from s.to).0 i.leads).0;
    line = subst (λ (l : List (List Label)). Contains l s.labels) (of.kept.lines s.to) i.line;
    puts = i.puts ∙ of.kept.outputs s.to;
  }

  pub kept_step : (s : Step) → IsPlaceStep raw s →
      (get_or of.marks s.from false ≡ true) ⊎ IsOpened raw s.to → IsPlaceStep kept s
  kept_step s i why = record {
    before_end = i.before_end;
    leads = (of.kept.targets s.from s.to).1 (i.leads, why);
    line = subst (λ (l : List (List Label)). Contains l s.labels) (sym (of.kept.lines s.to)) i.line;
    puts = i.puts ∙ sym (of.kept.outputs s.to);
  }

  pub step_here : (s : Step) → IsPlaceStep kept s →
      IsStepOf states of.kinds of.arrivals of.are raw of.raw s
  step_here s i =
      let r = raw_step s i in
      step_of states of.kinds of.arrivals of.are raw of.raw s r (step_inside raw s r).0

  -- why a step isn't dropped
  pub step_why : (s : Step) → IsPlaceStep kept s →
      (get_or of.marks s.from false ≡ true) ⊎ IsOpened raw s.to
  step_why s i = ((of.kept.targets s.from s.to).0 i.leads).1

  -- each step is one to a hub, or one of the states
  pub steps_are : (s : Step) → IsPlaceStep kept s →
      IsToHub graphs places stands hubs g s
      ⊎ ((t : Step) × IsSameStep graphs places stands hubs g s t)
  steps_are s i = by (step_here s i)
    where
      by : IsStepOf states of.kinds of.arrivals of.are raw of.raw s →
          IsToHub graphs places stands hubs g s
          ⊎ ((t : Step) × IsSameStep graphs places stands hubs g s t)
      by o =
          let n = o.source.state in
          let inside = arrival_state states of.kinds of.arrivals of.are s.from o.source o.from in
          let from_is = of.standing.state s.from o.source o.from in
          let to_is = of.standing.state s.to o.target o.to in
          elim (edge_or_hub states of.kinds of.arrivals of.are raw of.raw s o) [
            | inl e ↦
                let edge : Edge = e.1.1 in
                let t : Step = record {
                  from = n;
                  to = edge.target;
                  output = edge.output;
                  labels = edge.label ∷ [];
                } in
                inr (
                  t,
                  record {
                    of_places = i;
                    of_states = record {
                      state = e.1.0;
                      found = e.1.2;
                      edge = edge;
                      inside = e.1.3;
                      to = refl;
                      label = refl;
                      puts = refl;
                    };
                    from = is_hub s.from n inside (o.from ∙ ap (λ x. Some x) e.0);
                    to = to_is ∙ ap (λ (x : Arrival). x.state) e.1.4;
                    kind = o.line ∙ (ap (λ (x : Arrival). label_of x.kind ∷ []) e.1.4
                        ∙ ap (λ (l : Label). l ∷ []) (label_arriving edge.label));
                  },
                )
            | inr e ↦
                let to_hub = is_hub s.to n inside (o.to ∙ ap (λ x. Some x) e.1) in
                inl (record {
                  of_places = i;
                  apart = λ same. e.0 (same_Some o.source (hub_arrival of.kinds n) (sym o.from
                      ∙ (ap (λ p. arrival_at of.arrivals p) (same ∙ ap (λ m. hub m) from_is)
                      ∙ hub_there n inside)));
                  to = to_hub ∙ ap (λ m. hub m) (sym from_is);
                  silent = o.line ∙ (ap (λ (x : Arrival). label_of x.kind ∷ []) e.1
                      ∙ ap (λ (k : Kind). label_of k ∷ []) (own_hub s.from o.source o.from e.0));
                })
          ]

  reached_mark : (p : ℕ) → is_reached kept p ≡ true → get_or of.marks p false ≡ true
  reached_mark p e =
      let inside = reached_inside kept p e in
      let len = of.kept.len in
      sym (of.kept.reached p (omega (arith, inside, len))) ∙ e

  -- a step of the states is there, if it opens a context or begins where a run leads
  pub steps_lift : (t : Step) → IsNetStep states t →
      ((sign : Sign) × (mark_of t.labels ≡ opens sign)) ⊎ (is_reached kept (hub t.from) ≡ true) →
      (s : Step) × IsSameStep graphs places stands hubs g s t
  steps_lift t i why =
      let inside = slice_get_within states t.from i.state i.found in
      let at = hub_there t.from inside in
      let q = edge_leads states of.kinds of.arrivals of.are raw of.raw (hub t.from) t.from i.state
      i.edge at i.found i.inside in
      let label : Label = label_of (arriving i.edge.label) in
      let s : Step = record { from = hub t.from; to = q.0; output = []; labels = label ∷ [] } in
      let line = arrival_line states of.kinds of.arrivals of.are raw of.raw q.0
      (edge_arrival i.edge) q.1 in
      let raw_is : IsPlaceStep raw s = record {
        before_end = (hub_facts t.from inside).1;
        leads = q.2;
        line = line;
        puts = sym (of.raw.quiet q.0);
      } in
      let mark : mark_of (label ∷ []) ≡ mark_of t.labels =
      ap (λ (l : Label). mark_of (l ∷ [])) (label_arriving i.edge.label)
      ∙ (mark_kind i.edge.label ∙ ap mark_of (sym i.label)) in
      let keeps : (get_or of.marks (hub t.from) false ≡ true) ⊎ IsOpened raw q.0 = elim why [
        | inl (sign, m) ↦ inr (label ∷ [], sign, line, mark ∙ m)
        | inr e ↦ inl (reached_mark (hub t.from) e)
      ] in (
        s,
        record {
          of_places = kept_step s raw_is keeps;
          of_states = i;
          from = refl;
          to = of.standing.state q.0 (edge_arrival i.edge) q.1 ∙ sym i.to;
          kind = ap (λ (l : Label). l ∷ []) (label_arriving i.edge.label)
              ∙ ap (λ (l : List Label). map kind_of l) (sym i.label);
        },
      )

  -- a place to which a run leads is a hub, or leads to the hub
  pub place_enters : (p : ℕ) → p ≢ 1 → is_reached kept p ≡ true →
      (p ≡ hub (state p))
      ⊎ ((s : Step) × IsToHub graphs places stands hubs g s × (s.from ≡ p))
  place_enters p other e =
      let x = arrival_of p (reached_inside kept p e) other in
      let n = x.0.state in
      let inside = arrival_state states of.kinds of.arrivals of.are p x.0 x.1 in
      let state_is = of.standing.state p x.0 x.1 in
      elim (hub_or of.kinds x.0) [
        | inl whole ↦
            inl (is_hub p n inside (x.1 ∙ ap (λ y. Some y) whole) ∙ ap (λ m. hub m) (sym state_is))
        | inr apart ↦
            let at = hub_there n inside in
            let s : Step = record { from = p; to = hub n; output = []; labels = Empty ∷ [] } in
            let raw_is : IsPlaceStep raw s = record {
              before_end = other;
              leads = hub_leads states of.kinds of.arrivals of.are raw of.raw p (hub n) x.0 x.1
                  apart at;
              line = subst (λ (k : Kind). Contains (label_lines raw (hub n)) (label_of k ∷ []))
                  (own_hub p x.0 x.1 apart)
                  (arrival_line states of.kinds of.arrivals of.are raw of.raw (hub n)
                  (hub_arrival of.kinds n) at);
              puts = sym (of.raw.quiet (hub n));
            } in
            inr (
              s,
              record {
                of_places = kept_step s raw_is (inl (reached_mark p e));
                apart = λ same. apart (same_Some x.0 (hub_arrival of.kinds n) (sym x.1
                    ∙ (ap (λ q. arrival_at of.arrivals q) (same ∙ ap (λ m. hub m) state_is) ∙ at)));
                to = ap (λ m. hub m) (sym state_is);
                silent = refl;
              },
              refl,
            )
      ]

  -- ends are final states
  pub ends_are : (p : ℕ) → IsEndPlace kept p → (p ≡ hub (state p)) × IsNetEnd states (state p)
  ends_are p e =
      let leads = ((of.kept.targets p 1).0 e.1).0 in
      let raw_inside = target_from raw p 1 leads in
      let len = of.kept.len in
      let x = arrival_of p (omega (arith, raw_inside, len)) e.0 in
      let back = end_back states of.kinds of.arrivals of.are raw of.raw p x.0 x.1 leads in
      let state_is = of.standing.state p x.0 x.1 in
      let inside = arrival_state states of.kinds of.arrivals of.are p x.0 x.1 in (
        is_hub p x.0.state inside (x.1 ∙ ap (λ y. Some y) back.0) ∙ ap (λ m. hub m) (sym state_is),
        subst (λ n. IsNetEnd states n) (sym state_is) back.1,
      )

  -- and the final states to which a run leads
  pub finals_are : (n : ℕ) → IsNetEnd states n → is_reached kept (hub n) ≡ true →
      IsEndPlace kept (hub n)
  finals_are n final e =
      let inside = slice_get_within states n final.state final.found in
      let at = hub_there n inside in (
        (hub_facts n inside).1,
        (of.kept.targets (hub n) 1).1 (
          end_leads states of.kinds of.arrivals of.are raw of.raw (hub n) n final.state at
              final.found final.final,
          inl (reached_mark (hub n) e),
        ),
      )

  -- a state has one place for each kind
  pub lines_apart : (p q : ℕ) (line : List Label) → Contains (label_lines kept p) line →
      Contains (label_lines kept q) line → state p ≡ state q → p ≡ q
  lines_apart p q line h k same =
      let x = line_arrival states of.kinds of.arrivals of.are raw of.raw p line
      (subst (λ (l : List (List Label)). Contains l line) (of.kept.lines p) h) in
      let y = line_arrival states of.kinds of.arrivals of.are raw of.raw q line
      (subst (λ (l : List (List Label)). Contains l line) (of.kept.lines q) k) in
      let labels : label_of x.0.kind ∷ [] ≡ label_of y.0.kind ∷ [] = sym x.2 ∙ y.2 in
      let kinds = kind_same x.0.kind y.0.kind (first_one labels) in
      let numbers : x.0.state ≡ y.0.state =
      sym (of.standing.state p x.0 x.1) ∙ (same ∙ of.standing.state q y.0 y.1) in
      let both : x.0 ≡ y.0 =
      ap (λ (k : Kind). let z : Arrival = record { state = x.0.state; kind = k } in z) kinds
      ∙ ap (λ n. let z : Arrival = record { state = n; kind = y.0.kind } in z) numbers in
      place_once states of.kinds of.arrivals of.are p q y.0 (x.1 ∙ ap (λ z. Some z) both) y.1
    where
      first_one : {a b : Label} → a ∷ [] ≡ b ∷ [] → a ≡ b
      first_one e = cc

  -- places ascend by their states
  pub places_ascend : (p q : ℕ) → p < length kept → q < length kept → state p < state q → p < q
  places_ascend p q inside there low = elim (same_or q 1) [
    | inl e ↦
        let none : state q ≡ 0 = ap (λ n. state n) e ∙ of.standing.last in
        absurd (omega (arith, none, low))
    | inr other ↦ elim (same_or p 1) [
      | inl e ↦ elim (same_or q 0) [
        | inl z ↦
            let none : state q ≡ 0 = ap (λ n. state n) z ∙ state_start in
            absurd (omega (arith, none, low))
        | inr past ↦ by q e past other
      ]
      | inr apart ↦
          let x = arrival_of p inside apart in
          let y = arrival_of q there other in
          let left = of.standing.state p x.0 x.1 in
          let right = of.standing.state q y.0 y.1 in
          place_order states of.kinds of.arrivals of.are p q x.0 y.0 x.1 y.1
          (omega (arith, low, left, right))
    ]
  ]
    where
      by : (q : ℕ) → p ≡ 1 → q ≢ 0 → q ≢ 1 → p < q
      by zero e past other = absurd (past refl)
      by (suc zero) e past other = absurd (other refl)
      by (suc (suc q)) e past other = omega (arith, e)

  -- a run of what is kept is one of the raw places
  run_raw : {a b : ℕ} {w : List Letter} → Run g (place_graph kept) a b w →
      Run g (place_graph raw) a b w
  run_raw stop = stop
  run_raw (along s i m r) = along s (raw_step s i) m (run_raw r)
  run_raw (across sign s t i m body j n r) =
      across sign s t (raw_step s i) m (run_raw body) (raw_step t j) n (run_raw r)

  unit_raw : (p : ℕ) → IsUnit (place_grammar places) g p → IsUnit (place_grammar raws) g p
  unit_raw p (inl e) = inl e
  unit_raw p (inr o) = inr (
    o.0,
    record {
      step = o.1.step;
      of_graph = raw_step o.1.step o.1.of_graph;
      to = o.1.to;
      opens = o.1.opens;
    },
  )

  opened_line : (s : Step) (sign : Sign) → IsPlaceStep raw s → mark_of s.labels ≡ opens sign →
      IsOpened raw s.to
  opened_line s sign i m = (s.labels, sign, i.line, m)

  unit_kept : (p : ℕ) → IsUnit (place_grammar raws) g p → IsUnit (place_grammar places) g p
  unit_kept p (inl e) = inl e
  unit_kept p (inr o) = inr (
    o.0,
    record {
      step = o.1.step;
      of_graph = kept_step o.1.step o.1.of_graph
          (inr (opened_line o.1.step o.0 o.1.of_graph o.1.opens));
      to = o.1.to;
      opens = o.1.opens;
    },
  )

  -- where a run leads on from where one leads, one leads to its end
  pub led : {a b : ℕ} {w : List Letter} → IsMet (place_grammar raws) g a →
      Run g (place_graph raw) a b w → IsMet (place_grammar raws) g b
  led m r = record {
    first = m.first;
    unit = m.unit;
    word = m.word ++ _;
    run = run_joined g (place_graph raw) m.run r;
  }

  -- a run from where one leads from a unit isn't dropped
  run_kept : {a b : ℕ} {w : List Letter} → Run g (place_graph raw) a b w →
      IsMet (place_grammar raws) g a → Run g (place_graph kept) a b w
  run_kept stop met = stop
  run_kept (along s i m r) met =
      let inside = (step_inside raw s i).0 in
      along s (kept_step s i (inl ((of.marked s.from inside).1 met))) m
      (run_kept r (led met (along s i m stop)))
  run_kept (across sign s t i m body j n r) met =
      let opening : IsMet (place_grammar raws) g s.to = record {
        first = s.to;
        unit = inr (sign, record { step = s; of_graph = i; to = refl; opens = m });
        word = [];
        run = stop;
      } in
      let inner = run_kept body opening in
      let closing = led opening body in
      let inside = (step_inside raw t j).0 in
      across sign s t (kept_step s i (inr (opened_line s sign i m))) m inner
      (kept_step t j (inl ((of.marked t.from inside).1 closing))) n
      (run_kept r (led met (across sign s t i m body j n stop)))

  met_raw : (p : ℕ) → IsMet (place_grammar places) g p → IsMet (place_grammar raws) g p
  met_raw p m = record {
    first = m.first;
    unit = unit_raw m.first m.unit;
    word = m.word;
    run = run_raw m.run;
  }

  pub met_kept : (p : ℕ) → IsMet (place_grammar raws) g p → IsMet (place_grammar places) g p
  met_kept p m = record {
    first = m.first;
    unit = unit_kept m.first m.unit;
    word = m.word;
    run = run_kept m.run (record { first = m.first; unit = m.unit; word = []; run = stop });
  }

  -- places are marked as reached where a run from a unit leads
  pub reached_met : (p : ℕ) → p < length kept →
      (is_reached kept p ≡ true) ↔ IsMet (place_grammar places) g p
  reached_met p inside =
      let len = of.kept.len in
      let raw_inside : p < length raw = omega (arith, inside, len) in
      let marked = of.marked p raw_inside in (
        λ e. met_kept p (marked.0 (reached_mark p e)),
        λ m. of.kept.reached p raw_inside ∙ marked.1 (met_raw p m),
      )
