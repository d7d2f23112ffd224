-- What a run derives behind a way, its graph derives; and positions move on within the text.
use Rattle.std.proofs.Common.{arith, ℕ, ◌≤◌, List, ◌++◌, inl, inr, sym, ap, subst, ◌∙◌, length, append_assoc}
use Rattle.ux_outputs.specs.declared.event.Event.{Event}
use Rattle.ux_walk.specs.Contexts.{Applying}
use Rattle.ux_walk.specs.Settings.{Setting}
use Rattle.ux_walk.proofs.Onward.{AreForward, takes_forward}
use Rattle.ux_listing.specs.Moves.{goes, Moves}
use Rattle.ux_listing.specs.Runs.{Goes, Way, Entered}
use Rattle.ux_listing.specs.Runs as run

module _ (setting : Setting) (applies : Applying) where
  -- by induction on the way
  pub way_derives : {g i a p : ℕ} {before : List Event} → Way setting applies g i a p before →
      {e : ℕ} {later : List Event} → Goes setting applies g a p e later →
      Goes setting applies g 0 i e (before ++ later)
  way_derives run.begins goes_on = goes_on
  way_derives {g = g} {i = i} (run.along {before = before} here w move) {e = e} {later = later} goes_on =
      subst (λ (l : List Event). Goes setting applies g 0 i e l)
      (sym (append_assoc before here later)) (way_derives w (run.along here move goes_on))
  way_derives {g = g} {i = i} (run.across {before = before} {inside = inside} here w move inner)
      {e = e} {later = later} goes_on =
      subst (λ (l : List Event). Goes setting applies g 0 i e l)
      (sym (append_assoc before (here ++ inside) later
      ∙ ap (λ (l : List Event). before ++ l) (append_assoc here inside later)))
      (way_derives w (run.across here move inner goes_on))

  module _ (forward : AreForward setting.alphabet setting.tokens setting.tables) where
    move_forward : (g a p b k : ℕ) (here : List Event) →
        Moves setting applies g a p (goes b k) here → (p ≤ k) × (p ≤ length setting.tokens → k ≤ length setting.tokens)
    move_forward g a p b k here (state, found, (edge, inside, (own, inl (t, b_is, is), events))) =
        let ahead = takes_forward setting.alphabet setting.tokens setting.tables forward edge.label
        p k t.1 in
        (omega (arith, ahead.0), λ within. omega (arith, ahead.1))
    move_forward g a p b k here (state, found, (edge, inside, (own, inr (inl (t, b_is, k_is, is)), events))) =
        (omega (arith, k_is), λ within. omega (arith, k_is, within))
    move_forward g a p b k here (state, found, (edge, inside, (own, inr (inr (t, applied, k_is, is)), events))) =
        (omega (arith, k_is), λ within. omega (arith, k_is, within))

    -- a run leads on, within the text
    pub goes_within : {g a p e : ℕ} {later : List Event} → Goes setting applies g a p e later →
        p ≤ length setting.tokens → e ≤ length setting.tokens
    goes_within (run.ends final) within = within
    goes_within (run.along {g = g} {a = a} {p = p} {b = b} {k = k} here move on) within =
        goes_within on ((move_forward g a p b k here move).1 within)
    goes_within (run.across here move inner on) within = goes_within on (goes_within inner within)

    pub way_within : {g i a p : ℕ} {before : List Event} → Way setting applies g i a p before →
        i ≤ length setting.tokens → p ≤ length setting.tokens
    way_within run.begins within = within
    way_within {g = g} (run.along {a = a} {p = p} {b = b} {k = k} here w move) within =
        (move_forward g a p b k here move).1 (way_within w within)
    way_within (run.across here w move inner) within = goes_within inner (way_within w within)

    pub entered_within : {start g i : ℕ} → Entered setting applies start g i →
        start ≤ length setting.tokens → i ≤ length setting.tokens
    entered_within run.main within = within
    entered_within (run.called here e w move) within = way_within w (entered_within e within)
