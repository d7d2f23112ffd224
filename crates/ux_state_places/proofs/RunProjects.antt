-- A run of the places is a run of the states for which they stand; and words and bodies of both.
use Rattle.std.proofs.Common.{arith, ◌≡◌, inl, inr, ℕ, ◌<◌, List, [], ◌∷◌, ◌++◌, length, map, refl, sym, ap, subst, ◌∙◌, true}
use Rattle.std.specs.Prelude.{Contains}
use Rattle.std.proofs.lemmas.Option.{slice_get_within}
use Rattle.ux_net.specs.declared.label.Label.{Label}
use Rattle.ux_net.specs.declared.label.Label.TheVariants.{ContextEnd}
use Rattle.ux_net.specs.declared.state_graph.StateGraph.{StateGraph}
use Rattle.ux_net.specs.Closers.{ClosesInto}
use Rattle.ux_net.specs.Nets.{net_graph, IsNetEnd}
use Rattle.ux_net.specs.StateGraphs.{told_states, state_grammar}
use Rattle.ux_net.specs.Words.{Sign, Step, Letter, context, ordinary, opens, closes, mark_of, letters, put_by, Run, stop, along, across, IsWord, IsBody}
use Rattle.ux_boxes.specs.declared.place.Place.{Place}
use Rattle.ux_boxes.specs.Places.{places_of, place_graph, place_grammar, label_lines, is_reached, IsPlaceStep}
use Rattle.ux_net.proofs.RunLemmas.{run_joined}
use Rattle.ux_boxes.proofs.StepsLemmas.{step_inside}
use Rattle.ux_net.proofs.LabelLaws.{closing_label}
use Rattle.ux_state_places.specs.Kinds.{kind_of}
use Rattle.ux_state_places.specs.Standing.{Stand}
use Rattle.ux_state_places.proofs.KindLemmas.{over}
use Rattle.ux_state_places.proofs.RunLifts.{hub, state, Same, ToHub, IsMetState, put_nothing, from_inside, same_mark, lifted, run_lifts, line_kinds}
use Rattle.ux_state_places.proofs.WordKinds.{AreKinds, no_letters, kept, kinds_append, kinds_pieces}

module _ (graphs : List StateGraph) (places : List (List Place)) (stands hubs : List (List ℕ))
    (stand : Stand graphs places stands hubs) (g : ℕ) where
  abbrev hub_at : ℕ → ℕ
  hub_at n = hub graphs places stands hubs stand g n

  abbrev state_at : ℕ → ℕ
  state_at p = state graphs places stands hubs stand g p

  abbrev SameAt : Step → Step → Type 0
  SameAt s t = Same graphs places stands hubs stand g s t

  abbrev Places : ℕ → ℕ → List Letter → Type 0
  Places p q word = Run g (place_graph (places_of places g)) p q word

  abbrev States : ℕ → ℕ → List Letter → Type 0
  States a b word = Run g (net_graph (told_states graphs g)) a b word

  -- the hub of a state stands for it
  pub state_hub : (n : ℕ) → n < length (told_states graphs g) → state_at (hub_at n) ≡ n
  state_hub n inside = (stand.hub g n inside).2

  -- both ends of a step to a hub stand for one state
  to_hub_state : (s : Step) → ToHub graphs places stands hubs stand g s →
      state_at s.to ≡ state_at s.from
  to_hub_state s t =
      ap state_at t.to ∙ state_hub (state_at s.from)
      (stand.inside g s.from (step_inside (places_of places g) s t.of_places).0)

  -- the beginning of a step stands for that of the step of the states
  pub same_from : (s t : Step) → SameAt s t → state_at s.from ≡ t.from
  same_from s t same = ap state_at same.from
      ∙ state_hub t.from (from_inside graphs places stands hubs stand g t same.of_states)

  -- a step that bounds a context is one of the states
  pub marked_same : (s : Step) → IsPlaceStep (places_of places g) s →
      (mark_of s.labels ≡ ordinary → ⊥) → (t : Step) × SameAt s t
  marked_same s i loud = elim (stand.steps g s i) [
    | inl t ↦ absurd (loud (ap mark_of t.silent))
    | inr x ↦ x
  ]

  pub opening_same : (s : Step) (sign : Sign) → IsPlaceStep (places_of places g) s →
      mark_of s.labels ≡ opens sign → (t : Step) × SameAt s t
  opening_same s sign i m = marked_same s i (λ o. let both : ordinary ≡ opens sign = sym o ∙ m in cc)

  pub closing_same : (s : Step) → IsPlaceStep (places_of places g) s →
      mark_of s.labels ≡ closes → (t : Step) × SameAt s t
  closing_same s i m = marked_same s i (λ o. let both : ordinary ≡ closes = sym o ∙ m in cc)

  -- a run of the places as a run of the states
  pub record Projected (p q : ℕ) (w : List Letter) : Type 0 where
    pub word : List Letter
    pub kinds : AreKinds word w
    pub run : States (state_at p) (state_at q) word

  passed : (s : Step) (q : ℕ) (w : List Letter) → ToHub graphs places stands hubs stand g s →
      Projected s.to q w → Projected s.from q ((put_by s ++ letters s.labels) ++ w)
  passed s q w t later =
      let nothing : put_by s ++ letters s.labels ≡ [] =
      ap (λ (l : List Letter). l ++ letters s.labels)
      (put_nothing graphs places stands hubs stand g s t.of_places)
      ∙ ap letters t.silent in
      record {
        word = later.word;
        kinds = subst (AreKinds later.word) (sym (ap (λ (l : List Letter). l ++ w) nothing))
            later.kinds;
        run = subst (λ n. States n (state_at q) later.word) (to_hub_state s t) later.run;
      }

  stepped : (s t : Step) (q : ℕ) (w : List Letter) → SameAt s t → mark_of s.labels ≡ ordinary →
      Projected s.to q w → Projected s.from q ((put_by s ++ letters s.labels) ++ w)
  stepped s t q w same m later =
      let mark : mark_of t.labels ≡ ordinary =
      sym (same_mark graphs places stands hubs stand g s t same) ∙ m in
      let word : put_by s ++ letters s.labels ≡ letters (map kind_of t.labels) =
      ap (λ (l : List Letter). l ++ letters s.labels)
      (put_nothing graphs places stands hubs stand g s same.of_places)
      ∙ ap letters same.kind in
      let front : AreKinds (put_by t ++ letters t.labels) (put_by s ++ letters s.labels) =
      subst (AreKinds (put_by t ++ letters t.labels)) (sym word)
      (kinds_append (kinds_pieces t.output) (line_kinds t.labels _ same.of_states.label mark)) in
      record {
        word = (put_by t ++ letters t.labels) ++ later.word;
        kinds = kinds_append front later.kinds;
        run = subst (λ n. States n (state_at q) ((put_by t ++ letters t.labels) ++ later.word))
            (sym (same_from s t same))
            (along t same.of_states mark
            (subst (λ n. States n (state_at q) later.word) same.to later.run));
      }

  crossed_back : (sign : Sign) (s u : Step) (q : ℕ) (body w : List Letter) →
      IsPlaceStep (places_of places g) s → mark_of s.labels ≡ opens sign →
      IsPlaceStep (places_of places g) u → mark_of u.labels ≡ closes →
      Projected s.to u.from body → Projected u.to q w →
      Projected s.from q (put_by s ++ context sign g s.to u.to ∷ w)
  crossed_back sign s u q body w i m j n inner later =
      let x = opening_same s sign i m in
      let y = closing_same u j n in
      let opening : mark_of x.0.labels ≡ opens sign =
      sym (same_mark graphs places stands hubs stand g s x.0 x.1) ∙ m in
      let closing : mark_of y.0.labels ≡ closes =
      sym (same_mark graphs places stands hubs stand g u y.0 y.1) ∙ n in
      let inside : States x.0.to y.0.from inner.word =
      subst (λ k. States k y.0.from inner.word) x.1.to
      (subst (λ k. States (state_at s.to) k inner.word) (same_from u y.0 y.1) inner.run) in
      let behind : States y.0.to (state_at q) later.word =
      subst (λ k. States k (state_at q) later.word) y.1.to later.run in
      let word : List Letter = put_by x.0 ++ context sign g x.0.to y.0.to ∷ later.word in
      record {
        word = word;
        kinds = subst (λ (l : List Letter). AreKinds word (l ++ context sign g s.to u.to ∷ w))
            (sym (put_nothing graphs places stands hubs stand g s i))
            (kinds_append (kinds_pieces x.0.output) (kept over later.kinds));
        run = subst (λ k. States k (state_at q) word) (sym (same_from s x.0 x.1))
            (across sign x.0 y.0 x.1.of_states opening inside y.1.of_states closing behind);
      }

  pub run_projects : {p q : ℕ} {w : List Letter} → Places p q w → Projected p q w
  run_projects stop = record { word = []; kinds = no_letters; run = stop }
  run_projects (along {b = b} {word = w} s i m r) =
      let later = run_projects r in
      elim (stand.steps g s i) [
        | inl t ↦ passed s b w t later
        | inr x ↦ stepped s x.0 b w x.1 m later
      ]
  run_projects (across {b = b} {body = body} {word = w} sign s t i m inner j n r) =
      crossed_back sign s t b body w i m j n (run_projects inner) (run_projects r)

  -- a body of the places is one of the states
  pub closes_back : (p c : ℕ) → ClosesInto (place_grammar places) g p c →
      ClosesInto (state_grammar graphs) g (state_at p) (state_at c)
  closes_back p c h =
      let body : IsBody g (place_graph (places_of places g)) p c h.0 = h.1 in
      let x = closing_same body.step body.inside body.closed in
      let r = run_projects body.run in (
        r.word,
        record {
          step = x.0;
          inside = x.1.of_states;
          closed = sym (same_mark graphs places stands hubs stand g body.step x.0 x.1) ∙ body.closed;
          after = sym x.1.to ∙ ap state_at body.after;
          run = subst (λ n. States (state_at p) n r.word) (same_from body.step x.0 x.1) r.run;
        },
      )

  -- the place into which a context is closed has the closing line
  pub closer_line : (p c : ℕ) → ClosesInto (place_grammar places) g p c →
      Contains (label_lines (places_of places g) c) (ContextEnd ∷ [])
  closer_line p c h =
      let body : IsBody g (place_graph (places_of places g)) p c h.0 = h.1 in
      let x = closing_same body.step body.inside body.closed in
      let mark : mark_of x.0.labels ≡ closes =
      sym (same_mark graphs places stands hubs stand g body.step x.0 x.1) ∙ body.closed in
      let label = x.1.of_states.label in
      let is = closing_label x.1.of_states.edge.label (ap mark_of (sym label) ∙ mark) in
      let line : body.step.labels ≡ ContextEnd ∷ [] =
      x.1.kind ∙ (ap (λ (l : List Label). map kind_of l) label
      ∙ ap (λ (l : Label). kind_of l ∷ []) is) in
      subst (λ n. Contains (label_lines (places_of places g) n) (ContextEnd ∷ [])) body.after
      (subst (λ (l : List Label). Contains (label_lines (places_of places g) body.step.to) l) line
      body.inside.line)

  -- a body of the states is one of the places, from each place that leads to the hub
  pub closes_forth : (n c p : ℕ) → ClosesInto (state_grammar graphs) g n c →
      IsMetState graphs places stands hubs stand g n → Places p (hub_at n) [] →
      (q : ℕ) × ClosesInto (place_grammar places) g p q × (state_at q ≡ c)
  closes_forth n c p h met enters =
      let body : IsBody g (net_graph (told_states graphs g)) n c h.0 = h.1 in
      let r = run_lifts graphs places stands hubs stand g body.run met in
      let x = lifted graphs places stands hubs stand g body.step body.inside r.met in (
        x.0.to,
        (
          r.word,
          record {
            step = x.0;
            inside = x.1.of_places;
            closed = same_mark graphs places stands hubs stand g x.0 body.step x.1 ∙ body.closed;
            after = refl;
            run = subst (λ k. Places p k r.word) (sym x.1.from)
                (run_joined g (place_graph (places_of places g)) enters r.run);
          },
        ),
        x.1.to ∙ body.after,
      )

  -- where a run ends at a state, it begins at one
  pub start_inside : {a b : ℕ} {v : List Letter} → States a b v →
      b < length (told_states graphs g) → a < length (told_states graphs g)
  start_inside stop inside = inside
  start_inside (along s i m r) inside = from_inside graphs places stands hubs stand g s i
  start_inside (across sign s t i m body j n r) inside =
      from_inside graphs places stands hubs stand g s i

  -- a run leads to the start
  pub start_met : 0 < length (told_states graphs g) →
      IsMetState graphs places stands hubs stand g 0
  start_met some =
      let h = stand.hub g 0 some in
      let inside : 0 < length (places_of places g) =
      subst (λ n. n < length (places_of places g)) (stand.start g) h.0 in
      record {
        inside = some;
        reached = subst (λ n. is_reached (places_of places g) n ≡ true) (sym (stand.start g))
            ((stand.met g 0 inside (λ e. absurd (omega (arith, e)))).1
            (record { first = 0; unit = inl refl; word = []; run = stop }));
      }

  pub end_inside : (n : ℕ) → IsNetEnd (told_states graphs g) n → n < length (told_states graphs g)
  end_inside n e = slice_get_within (told_states graphs g) n e.state e.found

module _ (graphs : List StateGraph) (places : List (List Place)) (stands hubs : List (List ℕ))
    (stand : Stand graphs places stands hubs) where
  -- a word of the states is one of the places
  pub words_forth : (h : ℕ) (v : List Letter) → IsWord h ((state_grammar graphs).graph h) v →
      (w : List Letter) × AreKinds v w × IsWord h ((place_grammar places).graph h) w
  words_forth h v is =
      let last = end_inside graphs places stands hubs stand h is.last is.ends in
      let met = start_met graphs places stands hubs stand h
      (start_inside graphs places stands hubs stand h is.run last) in
      let r = run_lifts graphs places stands hubs stand h is.run met in (
        r.word,
        r.kinds,
        record {
          last = hub graphs places stands hubs stand h is.last;
          ends = stand.finals h is.last is.ends r.met.reached;
          run = subst (λ n. Run h (place_graph (places_of places h)) n
              (hub graphs places stands hubs stand h is.last) r.word) (stand.start h) r.run;
        },
      )

  -- a word of the places is one of the states
  pub words_back : (h : ℕ) (w : List Letter) → IsWord h ((place_grammar places).graph h) w →
      (v : List Letter) × AreKinds v w × IsWord h ((state_grammar graphs).graph h) v
  words_back h w is =
      let r = run_projects graphs places stands hubs stand h is.run in (
        r.word,
        r.kinds,
        record {
          last = state graphs places stands hubs stand h is.last;
          ends = (stand.ends h is.last is.ends).1;
          run = subst (λ n. Run h (net_graph (told_states graphs h)) n
              (state graphs places stands hubs stand h is.last) r.word) (stand.first h) r.run;
        },
      )
