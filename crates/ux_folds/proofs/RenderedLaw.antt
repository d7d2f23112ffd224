-- The law of the fold that renders: a state's hit is the one that the events before it render, and a
-- derivation that is dropped renders none. The events take tokens that follow each other, and ask what
-- counts.
use Rattle.std.proofs.Common.{◌≡◌, ℕ, ◌<◌, ◌≤◌, length, List, [], ◌∷◌, inl, inr, refl, sym, subst}
use Rattle.std.specs.Prelude.{Option, Some, None, option_and_then}
use Rattle.ux_base.specs.declared.settings.Mode.{Mode}
use Rattle.ux_base.specs.declared.settings.NoVar.{NoVar}
use Rattle.ux_tokens.specs.Tokens.{Token}
use Rattle.ux_outputs.specs.declared.event.Event.{Event}
use Rattle.ux_outputs.specs.declared.event.Event.TheVariants.{Take, Put, Value, Begin, End, Cut}
use Rattle.ux_outputs.specs.Following.{FollowWithin}
use Rattle.ux_outputs.specs.Rendering.{State, after_event, hit_of, render, rendered_from, state_at}
use Rattle.ux_outputs.proofs.FollowingLemmas.{FollowWithin-first, FollowWithin-later, after_event-position}
use Rattle.ux_folds.specs.declared.rendering.RenderingFold.{RenderingFold}
use Rattle.ux_folds.specs.declared.tables.Tables.{Tables}
use Rattle.ux_folds.specs.Folding.{Folds, Next}
use Rattle.ux_folds.specs.Following.{AreAsked, AreNumbered, Fits, IsNext, Means, NextBy, Renders, rendered_by}
use Rattle.ux_folds.specs.Laws.{AgreeBoth, after_agree, agree_state, state_agree}
use Rattle.ux_folds.specs.Tables.{IsState}
use Rattle.ux_folds.proofs.FoldLemmas.{folds_from_none}

module _ (tokens : List Token) (mode : Mode) (novar : NoVar) (names : List (List ℕ)) where
  -- the first event fits
  fits_first : (position : ℕ) (event : Event) (later : List Event) →
      FollowWithin tokens position (event ∷ later) → AreAsked mode names (event ∷ later) →
      Fits tokens mode names position event
  fits_first position (Take from to) later follow asked =
      let first = FollowWithin-first tokens position (Take from to) later follow in (
        first.follows.0,
        subst (λ (p : ℕ). p < to) (sym first.follows.0) first.follows.1,
        subst (λ (n : ℕ). n ≤ length tokens) (sym first.follows.2) first.within,
      )
  fits_first position (Put text) later follow asked = tt
  fits_first position (Value text) later follow asked = asked.0
  fits_first position (Begin text) later follow asked = tt
  fits_first position (End text) later follow asked = tt
  fits_first position Cut later follow asked = tt

  -- the later ones ask what counts
  asked_later : (event : Event) (later : List Event) → AreAsked mode names (event ∷ later) →
      AreAsked mode names later
  asked_later (Take from to) later asked = asked
  asked_later (Put text) later asked = asked
  asked_later (Value text) later asked = asked.1
  asked_later (Begin text) later asked = asked
  asked_later (End text) later asked = asked
  asked_later Cut later asked = asked

  module _ (tables : Tables) where
    abbrev next : Next
    next = IsNext tokens mode novar names tables

    -- what is rendered after an event, by what is rendered from there
    goes_on : (event : Event) (later : List Event) (mid after : Option ℕ) (state : State) →
        FollowWithin tokens state.position (event ∷ later) → Folds next later mid after →
        ((number : ℕ) (v : State) → FollowWithin tokens v.position later →
        IsState tokens names tables number v → Folds next later (Some number) after →
        Renders tokens mode novar names tables after
        (rendered_from mode novar tokens v later)) →
        (o p : Option State) → after_event mode novar tokens state event ≡ o →
        AgreeBoth names o p → AreNumbered tokens names tables p mid →
        Renders tokens mode novar names tables after
        (rendered_from mode novar tokens state (event ∷ later))
    goes_on event later mid after state follow folds rest None None e both numbered =
        subst (λ (o : Option State). Renders tokens mode novar names tables after
        (option_and_then (λ s. rendered_from mode novar tokens s later) o)) (sym e)
        (subst (λ (r : Option ℕ). Renders tokens mode novar names tables r None)
        (sym (folds_from_none next later after
        (subst (λ (m : Option ℕ). Folds next later m after) numbered folds))) refl)
    goes_on event later mid after state follow folds rest None (Some w) e both numbered = absurd both
    goes_on event later mid after state follow folds rest (Some v) None e both numbered = absurd both
    goes_on event later mid after state follow folds rest (Some v) (Some w) e both numbered =
        subst (λ (o : Option State). Renders tokens mode novar names tables after
        (option_and_then (λ s. rendered_from mode novar tokens s later) o)) (sym e)
        (rest numbered.0 v
        (subst (λ (p : ℕ). FollowWithin tokens p later)
        (sym (after_event-position novar tokens state v mode event e))
        (FollowWithin-later tokens state.position event later follow))
        (agree_state tokens names tables numbered.0 w v
        (record {
          position = sym both.position;
          text = sym both.text;
          span = sym both.span;
          variables = λ name counts. sym (both.variables name counts);
        }) numbered.2)
        (subst (λ (m : Option ℕ). Folds next later m after) numbered.1 folds))

    -- what is rendered from a state, where events are folded from its number
    pub renders_from : (events : List Event) (number : ℕ) (after : Option ℕ) (state : State) →
        FollowWithin tokens state.position events → AreAsked mode names events →
        IsState tokens names tables number state → Folds next events (Some number) after →
        Renders tokens mode novar names tables after
        (rendered_from mode novar tokens state events)
    renders_from [] number after state follow asked is folds =
        subst (λ (o : Option ℕ). Renders tokens mode novar names tables o (hit_of state))
        (sym folds) (state, is, refl)
    renders_from (event ∷ later) number after state follow asked is (mid, told, folds) =
        let agree = state_agree tokens names tables number state told.state is told.is_state in
        let fits = fits_first state.position event later follow asked in
        elim told.follows [
          | inl goes ↦ goes_on event later mid after state follow folds
              (λ u v f i k. renders_from later u after v f (asked_later event later asked) i k)
              (after_event mode novar tokens state event)
              (after_event mode novar tokens told.state event) refl
              (after_agree tokens names novar state told.state agree mode event fits) goes.1
          | inr not ↦ absurd (not.0 (subst (λ (p : ℕ). Fits tokens mode names p event)
              agree.position fits))
        ]

-- what a fold makes of the events of a derivation from a start: the number of what renders their hit
pub renders : (fold : RenderingFold) (start first : ℕ) (events : List Event) (after : Option ℕ) →
    Means fold first (rendered_by fold (state_at start)) →
    FollowWithin fold.text.now start events → AreAsked fold.mode fold.names.now events →
    Folds (NextBy fold) events (Some first) after →
    Renders fold.text.now fold.mode fold.novar fold.names.now fold.tables after
    (render fold.text.now fold.mode fold.novar start events)
renders fold start first events after means follow asked folds =
    renders_from fold.text.now fold.mode fold.novar fold.names.now fold.tables events first after
    (state_at start) follow asked means.is_state folds
