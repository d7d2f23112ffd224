-- Events that take nothing render no hit, in any mode.
use Rattle.std.proofs.Common.{arith, ◌≡◌, ℕ, ◌≤◌, ◌⊎◌, inl, inr, Bool, true, false, List, [], ◌∷◌, Option, Some, None, refl, sym, ◌∙◌, ap}
use Rattle.std.specs.Prelude.{is_some, is_none, option_and_then, option_map}
use Rattle.std.proofs.lemmas.Option.{none-some}
use Rattle.ux_base.specs.declared.settings.Mode.{Mode}
use Rattle.ux_base.specs.declared.settings.Mode.TheVariants.{Ignore, Merge, Replace}
use Rattle.ux_base.specs.declared.settings.NoVar.{NoVar}
use Rattle.ux_base.specs.declared.settings.NoVar.TheVariants.{Nothing, Drop}
use Rattle.ux_tokens.specs.Tokens.{Token}
use Rattle.ux_outputs.specs.declared.event.Event.{Event}
use Rattle.ux_outputs.specs.declared.event.Event.TheVariants.{Take, Put, Value, Begin, End, Cut}
use Rattle.ux_outputs.specs.declared.hit.Hit.{Hit}
use Rattle.ux_outputs.specs.declared.span.Span.{Span}
use Rattle.ux_outputs.specs.Following.{Follows}
use Rattle.ux_outputs.specs.Rendering.{State, after_asked, after_begin, after_cut, after_end, after_put, after_test, after_value, render, rendered_from, state_at}
use Rattle.ux_outputs.specs.Variables.{Asked, Named, asked_by, input, is_set, is_unset, named_by, output, value_of}
use Rattle.ux_outputs.proofs.FollowingLemmas.{Follows-forward}

-- nothing goes on, or a state of the same span
abbrev pub KeepsSpan : State → Option State → Type 0
KeepsSpan state after =
    (after ≡ None) ⊎ ((next : State) × (after ≡ Some next) × (next.span ≡ state.span))

value_keeps : (novar : NoVar) (state : State) (value : Option (List ℕ)) →
    KeepsSpan state (after_value novar state value)
value_keeps novar state (Some value) = inr (after_put state value, refl, refl)
value_keeps Nothing state None = inr (state, refl, refl)
value_keeps Drop state None = inl refl

test_keeps : (state : State) (holds : Bool) → KeepsSpan state (after_test state holds)
test_keeps state true = inr (state, refl, refl)
test_keeps state false = inl refl

pub asked_keeps : (novar : NoVar) (state : State) (asked : Asked) →
    KeepsSpan state (after_asked novar state asked)
asked_keeps novar state (value_of name) = value_keeps novar state (state.variables name).value
asked_keeps novar state (is_set name) = test_keeps state (is_some (state.variables name).value)
asked_keeps novar state (is_unset name) = test_keeps state (is_none (state.variables name).value)

pub begin_keeps : (state : State) (named : Named) → (after_begin state named).span ≡ state.span
begin_keeps state (input name) = refl
begin_keeps state (output name) = refl

pub end_keeps : (tokens : List Token) (state : State) (named : Named) →
    (after_end tokens state named).span ≡ state.span
end_keeps tokens state (input name) = refl
end_keeps tokens state (output name) = refl

module _ (tokens : List Token) (novar : NoVar) where
  abbrev renders_on : Mode → List Event → Option State → Option Hit
  renders_on mode later after =
      option_and_then (λ (next : State). rendered_from mode novar tokens next later) after

  -- a fresh rendering stays fresh
  stays_fresh : (mode : Mode) (state : State) (start end : ℕ) (events : List Event) (hit : Hit) →
      state.span ≡ None → Follows start end events → end ≤ start →
      rendered_from mode novar tokens state events ≡ Some hit → ⊥
  stays_fresh mode state start end [] hit fresh follows low e =
      none-some hit (ap (λ (o : Option Span). option_map (λ (span : Span). record {
        first = span.first;
        last = span.last;
        text = state.text;
      }) o) (sym fresh) ∙ e)
  stays_fresh mode state start end (Take from to ∷ later) hit fresh follows low e =
      let forward = Follows-forward to end later follows.2 in
      absurd (omega (arith, follows.1, forward, low))
  stays_fresh Ignore state start end (Put text ∷ later) hit fresh follows low e =
      stays_fresh Ignore state start end later hit fresh follows low e
  stays_fresh Merge state start end (Put text ∷ later) hit fresh follows low e =
      stays_fresh Merge (after_put state text) start end later hit fresh follows low e
  stays_fresh Replace state start end (Put text ∷ later) hit fresh follows low e =
      stays_fresh Replace (after_put state text) start end later hit fresh follows low e
  stays_fresh Ignore state start end (Value text ∷ later) hit fresh follows low e =
      stays_fresh Ignore state start end later hit fresh follows low e
  stays_fresh Merge state start end (Value text ∷ later) hit fresh follows low e =
      elim (asked_keeps novar state (asked_by text)) [
        | inl none ↦ none-some hit (ap (renders_on Merge later) (sym none) ∙ e)
        | inr (next, is, same) ↦
            stays_fresh Merge next start end later hit (same ∙ fresh) follows low
            (ap (renders_on Merge later) (sym is) ∙ e)
      ]
  stays_fresh Replace state start end (Value text ∷ later) hit fresh follows low e =
      elim (asked_keeps novar state (asked_by text)) [
        | inl none ↦ none-some hit (ap (renders_on Replace later) (sym none) ∙ e)
        | inr (next, is, same) ↦
            stays_fresh Replace next start end later hit (same ∙ fresh) follows low
            (ap (renders_on Replace later) (sym is) ∙ e)
      ]
  stays_fresh mode state start end (Begin text ∷ later) hit fresh follows low e =
      stays_fresh mode (after_begin state (named_by text)) start end later hit
      (begin_keeps state (named_by text) ∙ fresh) follows low e
  stays_fresh mode state start end (End text ∷ later) hit fresh follows low e =
      stays_fresh mode (after_end tokens state (named_by text)) start end later hit
      (end_keeps tokens state (named_by text) ∙ fresh) follows low e
  stays_fresh mode state start end (Cut ∷ later) hit fresh follows low e =
      stays_fresh mode (after_cut state) start end later hit refl follows low e

-- where nothing is taken, no hit is rendered
pub renders_nothing : (tokens : List Token) (novar : NoVar) (mode : Mode) (start end : ℕ)
    (events : List Event) (hit : Hit) → Follows start end events → end ≤ start →
    render tokens mode novar start events ≡ Some hit → ⊥
renders_nothing tokens novar mode start end events hit follows low e =
    stays_fresh tokens novar mode (state_at start) start end events hit refl follows low e
