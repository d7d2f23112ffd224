-- What runs of the main graph derive is what it means, where contexts apply as they are meant.
use Rattle.std.proofs.Common.{arith, ◌≡◌, ℕ, zero, suc, ◌+◌, ◌-◌, ◌<◌, ◌≤◌, List, [], ◌∷◌, ◌++◌, ◌↔◌, inl, inr, refl, sym, ap, subst, ◌∙◌, length, reverse, append_assoc, append-nil}
use Rattle.ux_net.specs.declared.label.Label.{Label}
use Rattle.ux_net.specs.declared.label.Label.TheVariants.{Begin, End, Cut}
use Rattle.ux_net.specs.Measured.{IsMeasured}
use Rattle.ux_net.specs.Nets.{net_grammar}
use Rattle.ux_net.specs.Words.{stop}
use Rattle.ux_outputs.specs.declared.event.Event.{Event}
use Rattle.ux_outputs.specs.declared.event.Event.TheVariants.{Take}
use Rattle.ux_meaning.specs.Meaning.{DerBy, done}
use Rattle.ux_meaning.proofs.Levels.{in_the_end}
use Rattle.ux_walk.specs.declared.config.Frame.{Frame}
use Rattle.ux_walk.specs.Contexts.{Applying, ApplyAsMeant}
use Rattle.ux_walk.specs.Courses.{Course, GoesOn, passing, put_events}
use Rattle.ux_walk.specs.Settings.{Setting, Derives, applied_text}
use Rattle.ux_walk.proofs.OneStep as step
use Rattle.ux_walk.proofs.Onward.{AreForward, next_lighter}
use Rattle.ux_walk.proofs.Weights.{weight_of}
use Rattle.ux_listing.specs.Runs.{Goes}
use Rattle.ux_listing.specs.Runs as run

-- what a label gives is one event at most
onto-passing : (x : Label) (before later : List Event) →
    step.onto (passing x ++ before) later ≡ step.onto before (passing x ++ later)
onto-passing (Begin name) before later = refl
onto-passing (End name) before later = refl
onto-passing Cut before later = refl
onto-passing other before later = refl

-- no events before
onto-put : (put later : List Event) → step.onto (reverse put ++ []) later ≡ put ++ later
onto-put put later = step.onto-put put [] later

module _ (setting : Setting) (applies : Applying)
    (meant : ApplyAsMeant (applied_text setting.alphabet setting.tokens setting.tables) setting.net
    applies) where
  abbrev Through : List Frame → ℕ → ℕ → List Event → Type 0
  Through = step.Through setting.alphabet setting.tokens setting.tables applies setting.net meant

  -- the frame's graph goes on so to an end
  abbrev Runs : Frame → ℕ → ℕ → List Event → Type 0
  Runs f = step.Goes setting.alphabet setting.tokens setting.tables applies setting.net meant
      f.graph f.state

  abbrev Steps : Frame → List Frame → ℕ → Course → Type 0
  Steps f fs p w =
      GoesOn setting.alphabet setting.tokens setting.tables applies setting.net f fs p [] w

  abbrev frame : ℕ → ℕ → Frame
  frame g a = record { graph = g; state = a }

  abbrev Run : (g a p j : ℕ) → List Event → Type 0
  Run = Goes setting applies

  -- a frame that is gone through alone, goes on to an end
  alone : (f : Frame) (i j : ℕ) (events : List Event) → Through (f ∷ []) i j events → Runs f i j events
  alone f i j events (k, here, later, on, through, split) =
      subst (λ (e : List Event). Runs f i j e)
      (sym (split ∙ (ap (λ (l : List Event). here ++ l) through.1 ∙ append-nil here)))
      (subst (λ (n : ℕ). Runs f i n here) through.0 on)

  with_others : (f : Frame) (fs : List Frame) (i k j : ℕ) (here later : List Event) →
      Runs f i k here → Through fs k j later → Through (f ∷ fs) i j (here ++ later)
  with_others f fs i k j here later on through = (k, here, later, on, through, refl)

  by_itself : (f : Frame) (i j : ℕ) (events : List Event) → Runs f i j events →
      Through (f ∷ []) i j events
  by_itself f i j events on =
      subst (λ (l : List Event). Through (f ∷ []) i j l) (append-nil events)
      (with_others f [] i j j events [] on (refl, refl))

  -- a step back, with the events that it gives
  stepped : (g a i j : ℕ) (w : Course) (later events : List Event) → Steps (frame g a) [] i w →
      Through w.frames w.at j later → events ≡ step.onto w.before later → Runs (frame g a) i j events
  stepped g a i j w later events goes_on through is =
      let back = step.step_back setting.alphabet setting.tokens setting.tables applies setting.net
      meant (frame g a) [] i [] j events w goes_on (later, through, is) in
      alone (frame g a) i j events
      (subst (λ (l : List Event). Through (frame g a ∷ []) i j l) (sym back.2) back.1)

  -- a run goes on so, by induction
  runs_mean : {g a p j : ℕ} {events : List Event} → Run g a p j events →
      Runs (frame g a) p j events
  runs_mean (run.ends {g = g} {a = a} {p = p} final) =
      record { last = a; ends = final; word = []; run = stop; seq = done }
  runs_mean (run.along {g = g} {a = a} {p = p} {b = b} {k = k} {j = j} {later = later} here
      (state, found, (edge, inside, (own, inl (t, b_is, own_is), is))) on) =
      let put : List Event = reverse (put_events edge.output) ++ [] in
      let next : Frame = frame g edge.target in
      stepped g a p j (record { frames = next ∷ []; at = k; before = Take p k ∷ put }) later
      (here ++ later) (state, found, inl (edge, inside, inl (k, t, refl)))
      (by_itself next k j later
      (subst (λ (n : ℕ). Runs (frame g n) k j later) b_is (runs_mean on)))
      (ap (λ (l : List Event). l ++ later) (is ∙ ap (λ (l : List Event). put_events edge.output ++ l) own_is)
      ∙ (append_assoc (put_events edge.output) (Take p k ∷ []) later
      ∙ sym (onto-put (put_events edge.output) (Take p k ∷ later))))
  runs_mean (run.along {g = g} {a = a} {p = p} {b = b} {k = k} {j = j} {later = later} here
      (state, found, (edge, inside, (own, inr (inl (t, b_is, k_is, own_is)), is))) on) =
      let put : List Event = reverse (put_events edge.output) ++ [] in
      let next : Frame = frame g edge.target in
      stepped g a p j (record { frames = next ∷ []; at = p; before = passing edge.label ++ put }) later
      (here ++ later) (state, found, inl (edge, inside, inr (inl (t, refl))))
      (by_itself next p j later
      (subst (λ (q : ℕ). Runs (frame g edge.target) q j later) k_is
      (subst (λ (n : ℕ). Runs (frame g n) k j later) b_is (runs_mean on))))
      (ap (λ (l : List Event). l ++ later) (is ∙ ap (λ (l : List Event). put_events edge.output ++ l) own_is)
      ∙ (append_assoc (put_events edge.output) (passing edge.label) later
      ∙ (sym (onto-put (put_events edge.output) (passing edge.label ++ later))
      ∙ sym (onto-passing edge.label put later))))
  runs_mean (run.along {g = g} {a = a} {p = p} {b = b} {k = k} {j = j} {later = later} here
      (state, found, (edge, inside, (own, inr (inr (opening, applied, k_is, own_is)), is))) on) =
      let put : List Event = reverse (put_events edge.output) ++ [] in
      let next : Frame = frame g b in
      stepped g a p j (record { frames = next ∷ []; at = p; before = put }) later
      (here ++ later) (state, found, inl (edge, inside, inr (inr (inr (b, opening, applied, refl)))))
      (by_itself next p j later
      (subst (λ (q : ℕ). Runs (frame g b) q j later) k_is (runs_mean on)))
      (ap (λ (l : List Event). l ++ later) (is ∙ (ap (λ (l : List Event). put_events edge.output ++ l) own_is
      ∙ append-nil (put_events edge.output)))
      ∙ sym (onto-put (put_events edge.output) later))
  runs_mean (run.across {g = g} {a = a} {p = p} {h = h} {b = b} {k = k} {j = j} {inside = inner}
      {later = later} here
      (state, found, (edge, inside, (own, (label, b_is, own_is), is))) called on) =
      let put : List Event = reverse (put_events edge.output) ++ [] in
      let next : Frame = frame g edge.target in
      let first : Runs (frame h 0) p k inner = runs_mean called in
      stepped g a p j (record { frames = frame h 0 ∷ next ∷ []; at = p; before = put })
      (inner ++ later) (here ++ (inner ++ later)) (
        state,
        found,
        inl (
          edge,
          inside,
          inr (inr (inl (
            h,
            label,
            step.goes_entered setting.alphabet setting.tokens setting.tables applies setting.net meant h p k
                inner first,
            refl,
          ))),
        ),
      )
      (with_others (frame h 0) (next ∷ []) p k j inner later first
      (by_itself next k j later (subst (λ (n : ℕ). Runs (frame g n) k j later) b_is (runs_mean on))))
      (ap (λ (l : List Event). l ++ (inner ++ later)) (is ∙ (ap (λ (l : List Event). put_events edge.output ++ l) own_is
      ∙ append-nil (put_events edge.output)))
      ∙ sym (onto-put (put_events edge.output) (inner ++ later)))

  -- the frames are run through in turn
  abbrev RunThrough : List Frame → ℕ → ℕ → List Event → Type 0
  RunThrough [] i j events = (i ≡ j) × (events ≡ [])
  RunThrough (f ∷ fs) i j events = (k : ℕ) × (here later : List Event)
      × Run f.graph f.state i k here × RunThrough fs k j later × (events ≡ here ++ later)

  module _ (forward : AreForward setting.alphabet setting.tokens setting.tables)
      (measured : IsMeasured setting.net) where
    abbrev weight : ℕ → List Frame → ℕ
    weight at frames = weight_of setting.net ((length setting.tokens - at) + 1) frames

    -- one step on, and what is run through from there
    over_step : (f : Frame) (fs : List Frame) (p j : ℕ) (w : Course) (later events : List Event) →
        Steps f fs p w → RunThrough w.frames w.at j later → events ≡ step.onto w.before later →
        RunThrough (f ∷ fs) p j events
    over_step f fs p j w later events (state, found, inr (final, w_is)) through is =
        let there : RunThrough fs p j later =
        subst (λ (x : Course). RunThrough x.frames x.at j later) w_is through in (
          p,
          [],
          later,
          run.ends (record { state = state; found = found; final = final }),
          there,
          is ∙ ap (λ (x : Course). step.onto x.before later) w_is,
        )
    over_step f fs p j w later events (state, found, inl (edge, inside, inl (k, t, w_is))) through is =
        let put : List Event = reverse (put_events edge.output) ++ [] in
        let r : RunThrough (frame f.graph edge.target ∷ fs) k j later =
        subst (λ (x : Course). RunThrough x.frames x.at j later) w_is through in (
          r.0,
          (put_events edge.output ++ (Take p k ∷ [])) ++ r.1,
          r.2,
          run.along (put_events edge.output ++ (Take p k ∷ []))
              (state, found, (edge, inside, (Take p k ∷ [], inl (t, refl, refl), refl))) r.3,
          r.4,
          is ∙ (ap (λ (x : Course). step.onto x.before later) w_is
              ∙ (onto-put (put_events edge.output) (Take p k ∷ later)
              ∙ (ap (λ (l : List Event). put_events edge.output ++ (Take p k ∷ l)) r.5
              ∙ (sym (append_assoc (put_events edge.output) (Take p k ∷ []) (r.1 ++ r.2))
              ∙ sym (append_assoc (put_events edge.output ++ (Take p k ∷ [])) r.1 r.2))))),
        )
    over_step f fs p j w later events (state, found, inl (edge, inside, inr (inl (t, w_is)))) through is =
        let put : List Event = reverse (put_events edge.output) ++ [] in
        let own : List Event = passing edge.label in
        let r : RunThrough (frame f.graph edge.target ∷ fs) p j later =
        subst (λ (x : Course). RunThrough x.frames x.at j later) w_is through in (
          r.0,
          (put_events edge.output ++ own) ++ r.1,
          r.2,
          run.along (put_events edge.output ++ own)
              (state, found, (edge, inside, (own, inr (inl (t, refl, refl, refl)), refl))) r.3,
          r.4,
          is ∙ (ap (λ (x : Course). step.onto x.before later) w_is
              ∙ (onto-passing edge.label put later
              ∙ (onto-put (put_events edge.output) (own ++ later)
              ∙ (ap (λ (l : List Event). put_events edge.output ++ (own ++ l)) r.5
              ∙ (sym (append_assoc (put_events edge.output) own (r.1 ++ r.2))
              ∙ sym (append_assoc (put_events edge.output ++ own) r.1 r.2)))))),
        )
    over_step f fs p j w later events
        (state, found, inl (edge, inside, inr (inr (inr (c, opening, applied, w_is))))) through is =
        let r : RunThrough (frame f.graph c ∷ fs) p j later =
        subst (λ (x : Course). RunThrough x.frames x.at j later) w_is through in (
          r.0,
          (put_events edge.output ++ []) ++ r.1,
          r.2,
          run.along (put_events edge.output ++ [])
              (state, found, (edge, inside, ([], inr (inr (opening, applied, refl, refl)), refl))) r.3,
          r.4,
          is ∙ (ap (λ (x : Course). step.onto x.before later) w_is
              ∙ (onto-put (put_events edge.output) later
              ∙ (ap (λ (l : List Event). put_events edge.output ++ l) r.5
              ∙ (sym (append_assoc (put_events edge.output) r.1 r.2)
              ∙ ap (λ (l : List Event). (l ++ r.1) ++ r.2) (sym (append-nil (put_events edge.output))))))),
        )
    over_step f fs p j w later events
        (state, found, inl (edge, inside, inr (inr (inl (h, label, enters, w_is))))) through is =
        let put : List Event = put_events edge.output in
        let r : RunThrough (frame h 0 ∷ frame f.graph edge.target ∷ fs) p j later =
        subst (λ (x : Course). RunThrough x.frames x.at j later) w_is through in
        let s = r.4 in (
          s.0,
          (put ++ []) ++ (r.1 ++ s.1),
          s.2,
          run.across (put ++ [])
              (state, found, (edge, inside, ([], (label, refl, refl), refl))) r.3 s.3,
          s.4,
          is ∙ (ap (λ (x : Course). step.onto x.before later) w_is
              ∙ (onto-put put later
              ∙ (ap (λ (l : List Event). put ++ l) (r.5 ∙ (ap (λ (l : List Event). r.1 ++ l) s.5
              ∙ sym (append_assoc r.1 s.1 s.2)))
              ∙ (sym (append_assoc put (r.1 ++ s.1) s.2)
              ∙ ap (λ (l : List Event). (l ++ (r.1 ++ s.1)) ++ s.2) (sym (append-nil put)))))),
        )

    -- frames that are gone through are run through, since each step on stands further or weighs less
    through_runs : (bound : ℕ) (frames : List Frame) (p j : ℕ) (events : List Event) →
        weight p frames < bound → p ≤ length setting.tokens → Through frames p j events →
        RunThrough frames p j events
    through_runs zero frames p j events less inside through = absurd (omega (arith, less))
    through_runs (suc bound) [] p j events less inside through = through
    through_runs (suc bound) (f ∷ fs) p j events less inside through =
        let next = step.step_forth setting.alphabet setting.tokens setting.tables applies
        setting.net meant f fs p [] j events (events, through, refl) in
        let lighter = next_lighter setting.net setting.alphabet setting.tokens
        setting.tables applies meant forward measured f fs p [] inside next.0 next.1 in
        over_step f fs p j next.0 next.2.0 events next.1
        (through_runs bound next.0.frames next.0.at j next.2.0 (omega (arith, less, lighter.1))
        lighter.0 next.2.1) next.2.2

    -- the main graph derives what its runs do
    pub derives_runs : (start j : ℕ) (events : List Event) → start ≤ length setting.tokens →
        Derives setting start j events ↔ Run 1 0 start j events
    derives_runs start j events inside = (
      λ derives.
          let starts = step.starts_forth setting.alphabet setting.tokens setting.tables applies
          setting.net meant 1 start j events (told.1 derives) in
          let r = through_runs (weight start (frame 1 0 ∷ []) + 1) (frame 1 0 ∷ []) start j starts.0
          (omega arith) inside starts.1 in
          subst (λ (l : List Event). Run 1 0 start j l)
          (sym (starts.2 ∙ (r.5 ∙ (ap (λ (l : List Event). r.1 ++ l) r.4.1 ∙ append-nil r.1))))
          (subst (λ (n : ℕ). Run 1 0 start n r.1) r.4.0 r.3),
      λ goes_on. told.0 (step.starts_back setting.alphabet setting.tokens setting.tables applies
          setting.net meant 1 start j events
          (events, by_itself (frame 1 0) start j events (runs_mean goes_on), refl)),
    )
      where
        told : DerBy (applied_text setting.alphabet setting.tokens setting.tables)
            (net_grammar setting.net) meant.levels 1 start j events
            ↔ Derives setting start j events
        told = in_the_end (applied_text setting.alphabet setting.tokens setting.tables)
            (net_grammar setting.net) meant.level meant.levels meant.nested 1 start j events
