-- Where walks lead is where derivations end, and walks lead on. Crates above build on these.
use Rattle.std.proofs.Common.{arith, ◌≡◌, ℕ, zero, suc, ◌+◌, ◌-◌, ◌<◌, ◌≤◌, List, [], ◌∷◌, ◌↔◌, refl, ap, subst, inl, inr, length}
use Rattle.ux_net.specs.Measured.{IsMeasured}
use Rattle.ux_net.specs.Nets.{ArePlain, net_grammar}
use Rattle.ux_outputs.specs.declared.event.Event.{Event}
use Rattle.ux_meaning.specs.Meaning.{DerBy}
use Rattle.ux_meaning.proofs.Levels.{in_the_end}
use Rattle.ux_walk.specs.declared.config.Frame.{Frame}
use Rattle.ux_walk.specs.Settings.{Setting, Derives, applied_text}
use Rattle.ux_walk.specs.Courses.{Course, GoesOn}
use Rattle.ux_walk.specs.Contexts.{Applying, ApplyAsMeant, none_apply}
use Rattle.ux_walk.specs.Leads.{Stack, LeadsBy, LeadsTo, ended, goes, main_stack}
use Rattle.ux_walk.proofs.ContextsLemmas.{none_meant}
use Rattle.ux_walk.proofs.OneStep.{Through, onto, step_forth, step_back, starts_forth, starts_back}
use Rattle.ux_walk.proofs.Onward.{AreForward, takes_forward, next_lighter}
use Rattle.ux_walk.proofs.Weights.{weight_of}

module _ (setting : Setting) where
  abbrev IsForward : Type 0
  IsForward = AreForward setting.alphabet setting.tokens setting.tables

  module _ (applies : Applying) where
    abbrev Steps : Frame → Stack → ℕ → Course → Type 0
    Steps f fs p w =
        GoesOn setting.alphabet setting.tokens setting.tables applies setting.net f fs p [] w

    -- a step leads on, within the text
    goes_forward : IsForward → (f : Frame) (fs : Stack) (p : ℕ) (w : Course) → Steps f fs p w →
        (p ≤ w.at) × (p ≤ length setting.tokens → w.at ≤ length setting.tokens)
    goes_forward forward f fs p w (state, found, inr (final, is)) =
        let at : w.at ≡ p = ap (λ (x : Course). x.at) is in
        (omega (arith, at), λ inside. omega (arith, at, inside))
    goes_forward forward f fs p w (state, found, inl (edge, inside, inl (k, takes, is))) =
        let at : w.at ≡ k = ap (λ (x : Course). x.at) is in
        let ahead = takes_forward setting.alphabet setting.tokens setting.tables forward edge.label
        p k takes.1 in
        (omega (arith, at, ahead.0), λ within. omega (arith, at, ahead.1))
    goes_forward forward f fs p w (state, found, inl (edge, inside, inr (inl (passes, is)))) =
        let at : w.at ≡ p = ap (λ (x : Course). x.at) is in
        (omega (arith, at), λ within. omega (arith, at, within))
    goes_forward forward f fs p w
        (state, found, inl (edge, inside, inr (inr (inl (h, label, enters, is))))) =
        let at : w.at ≡ p = ap (λ (x : Course). x.at) is in
        (omega (arith, at), λ within. omega (arith, at, within))
    goes_forward forward f fs p w
        (state, found, inl (edge, inside, inr (inr (inr (c, opening, applied, is))))) =
        let at : w.at ≡ p = ap (λ (x : Course). x.at) is in
        (omega (arith, at), λ within. omega (arith, at, within))

    -- a walk leads on, within the text
    pub leads_forward : IsForward → (stack : Stack) (at end : ℕ) →
        LeadsBy setting applies stack at end →
        (at ≤ end) × (at ≤ length setting.tokens → end ≤ length setting.tokens)
    leads_forward forward stack at end leads = by leads
      where
        by : {frames : Stack} {p e : ℕ} → LeadsBy setting applies frames p e →
            (p ≤ e) × (p ≤ length setting.tokens → e ≤ length setting.tokens)
        by ended = (omega arith, λ inside. inside)
        by (goes {f = f} {fs = fs} {p = p} w step rest) =
            let first = goes_forward forward f fs p w step in
            let later = by rest in
            (omega (arith, first.0, later.0), λ inside. later.1 (first.1 inside))

    module _ (meant : ApplyAsMeant (applied_text setting.alphabet setting.tokens setting.tables)
        setting.net applies) where
      -- so the frames are gone through with these events
      abbrev GoesThrough : Stack → ℕ → ℕ → List Event → Type 0
      GoesThrough =
          Through setting.alphabet setting.tokens setting.tables applies setting.net meant

      -- where a walk leads some events are derived
      leads_through : {frames : Stack} {p end : ℕ} → LeadsBy setting applies frames p end →
          (events : List Event) × GoesThrough frames p end events
      leads_through ended = ([], (refl, refl))
      leads_through {end = end} (goes {f = f} {fs = fs} {p = p} w step rest) =
          let later = leads_through rest in
          let all = step_back setting.alphabet setting.tokens setting.tables applies setting.net
          meant f fs p [] end (onto w.before later.0) w step (later.0, later.1, refl) in
          (all.0, all.1)

      module _ (forward : IsForward) (measured : IsMeasured setting.net) where
        abbrev weight : ℕ → Stack → ℕ
        weight at frames = weight_of setting.net ((length setting.tokens - at) + 1) frames

        -- frames that are gone through lead to the end
        through_leads : (bound : ℕ) (frames : Stack) (p end : ℕ) (events : List Event) →
            weight p frames < bound → p ≤ length setting.tokens → GoesThrough frames p end events →
            LeadsBy setting applies frames p end
        through_leads zero frames p end events less inside through =
            absurd (omega (arith, less))
        through_leads (suc bound) [] p end events less inside through =
            subst (λ (e : ℕ). LeadsBy setting applies [] p e) through.0 ended
        through_leads (suc bound) (f ∷ fs) p end events less inside through =
            let next = step_forth setting.alphabet setting.tokens setting.tables applies
            setting.net meant f fs p [] end events (events, through, refl) in
            let lighter = next_lighter setting.net setting.alphabet setting.tokens
            setting.tables applies meant forward measured f fs p [] inside next.0 next.1 in
            goes next.0 next.1 (through_leads bound next.0.frames next.0.at end next.2.0
            (omega (arith, less, lighter.1)) lighter.0 next.2.1)

        -- a walk of the main graph leads exactly where some events are derived
        pub leads_meant : (start end : ℕ) → start ≤ length setting.tokens →
            ((events : List Event) × Derives setting start end events)
            ↔ LeadsBy setting applies main_stack start end
        leads_meant start end inside = (
          λ (events, derives).
              let all = starts_forth setting.alphabet setting.tokens setting.tables applies
              setting.net meant 1 start end events ((told events).1 derives) in
              through_leads (weight start main_stack + 1) main_stack start end all.0
              (omega arith) inside all.1,
          λ leads.
              let all = leads_through leads in (
                all.0,
                (told all.0).0 (starts_back setting.alphabet setting.tokens setting.tables applies
                    setting.net meant 1 start end all.0 (all.0, all.1, refl)),
              ),
        )
          where
            told : (events : List Event) →
                DerBy (applied_text setting.alphabet setting.tokens setting.tables)
                (net_grammar setting.net) meant.levels 1 start end events
                ↔ Derives setting start end events
            told events = in_the_end
                (applied_text setting.alphabet setting.tokens setting.tables)
                (net_grammar setting.net) meant.level meant.levels meant.nested 1 start end events

  -- the same of a net of plain labels, in which no context applies
  pub leads_exactly : IsForward → IsMeasured setting.net → ArePlain setting.net →
      (start end : ℕ) → start ≤ length setting.tokens →
      ((events : List Event) × Derives setting start end events)
      ↔ LeadsTo setting main_stack start end
  leads_exactly forward measured are =
      leads_meant none_apply (none_meant setting.net are
      (applied_text setting.alphabet setting.tokens setting.tables)) forward measured
