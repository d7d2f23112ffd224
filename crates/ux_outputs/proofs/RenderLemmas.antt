-- A rendering that has followed some events renders what the definition has.
use Rattle.std.specs.Prelude.{◌≡◌, ℕ, ◌+◌, ◌<◌, ◌≤◌, List, ◌∷◌, Option, Some, None, length, drop, option_and_then}
use Rattle.std.proofs.Common.{◌∙◌, ap, sym, subst, suc, arith, get_or}
use Rattle.std.proofs.Math.Seq.{drop-cons}
use Rattle.ux_base.specs.declared.settings.Mode.{Mode}
use Rattle.ux_base.specs.declared.settings.NoVar.{NoVar}
use Rattle.ux_tokens.specs.Tokens.{Token}
use Rattle.ux_outputs.specs.declared.event.Event.{Event}
use Rattle.ux_outputs.specs.declared.hit.Hit.{Hit}
use Rattle.ux_outputs.specs.declared.rendering.Rendering.{Rendering}
use Rattle.ux_outputs.specs.Following.{FollowWithin}
use Rattle.ux_outputs.specs.Rendering.{State, after_event, render, rendered_from, state_at}
use Rattle.ux_outputs.specs.Kept.{IsKept, state_of}
use Rattle.ux_outputs.proofs.FollowingLemmas.{FollowWithin-later, FollowWithin-start, after_event-position}

-- what is left to follow renders the whole
pub record IsRendered (tokens : List Token) (mode : Mode) (novar : NoVar) (whole : Option Hit)
    (rendering : Rendering) (rest : List Event) : Type 0 where
  pub kept : IsKept tokens rendering
  pub follow : FollowWithin tokens rendering.position rest
  pub renders : rendered_from mode novar tokens (state_of mode tokens rendering) rest ≡ whole

module _ (tokens : List Token) (mode : Mode) (novar : NoVar) (whole : Option Hit) where
  -- the start
  pub IsRendered-start : (start : ℕ) (events : List Event) (new : Rendering) →
      FollowWithin tokens start events →
      (start ≤ length tokens → IsKept tokens new) →
      state_of mode tokens new ≡ state_at start →
      render tokens mode novar start events ≡ whole →
      IsRendered tokens mode novar whole new events
  IsRendered-start start events new follow kept same is = record {
    kept = kept (FollowWithin-start tokens start events follow);
    follow =
        let here : start ≡ new.position = sym (ap (λ (s : State). s.position) same) in
        subst (λ p. FollowWithin tokens p events) here follow;
    renders = ap (λ (s : State). rendered_from mode novar tokens s events) same ∙ is;
  }

  module _ (old : Rendering) (event : Event) (later : List Event)
      (rendered : IsRendered tokens mode novar whole old (event ∷ later)) where
    -- an event that drops the derivation
    pub IsRendered-dropped :
        after_event mode novar tokens (state_of mode tokens old) event ≡ None → None ≡ whole
    IsRendered-dropped dropped =
        sym (ap (option_and_then (λ next. rendered_from mode novar tokens next later)) dropped)
        ∙ rendered.renders

    -- an event after which it goes on
    pub IsRendered-next : (new : Rendering) → IsKept tokens new →
        after_event mode novar tokens (state_of mode tokens old) event
        ≡ Some (state_of mode tokens new) → IsRendered tokens mode novar whole new later
    IsRendered-next new kept next = record {
      kept = kept;
      follow =
          let here = after_event-position novar tokens (state_of mode tokens old)
          (state_of mode tokens new) mode event next in
          subst (λ p. FollowWithin tokens p later) (sym here)
          (FollowWithin-later tokens old.position event later rendered.follow);
      renders =
          sym (ap (option_and_then (λ s. rendered_from mode novar tokens s later)) next)
          ∙ rendered.renders;
    }

-- an item, and the ones after it
pub drop-item : (events : List Event) (i : ℕ) (event : Event) → i < length events →
    event ≡ get_or events i event → drop i events ≡ event ∷ drop (i + 1) events
drop-item events i event within is =
    drop-cons events i event within
    ∙ (ap (λ (e : Event). e ∷ drop (suc i) events) (sym is)
    ∙ ap (λ n. event ∷ drop n events) (next i))
  where
    next : (i : ℕ) → suc i ≡ i + 1
    next i = omega arith
