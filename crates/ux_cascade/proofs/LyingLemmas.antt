-- A hit that events through a text render lies in the text: its first token is no later than its last.
use Rattle.std.proofs.Common.{arith, ◌≡◌, ℕ, ◌<◌, ◌≤◌, ◌∙◌, Bool, true, false, List, [], ◌∷◌, Option, Some, None, refl, sym, ap, subst, length, inl, inr}
use Rattle.std.specs.Prelude.{IfSome, option_and_then, option_map}
use Rattle.std.proofs.lemmas.Option.{none-some, same_Some}
use Rattle.ux_base.specs.declared.settings.Mode.{Mode}
use Rattle.ux_base.specs.declared.settings.Mode.TheVariants.{Ignore, Merge, Replace}
use Rattle.ux_base.specs.declared.settings.NoVar.{NoVar}
use Rattle.ux_base.specs.declared.settings.NoVar.TheVariants.{Nothing, Drop}
use Rattle.ux_tokens.specs.Tokens.{Token}
use Rattle.ux_outputs.specs.declared.event.Event.{Event}
use Rattle.ux_outputs.specs.declared.event.Event.TheVariants.{Take, Put, Value, Begin, End, Cut}
use Rattle.ux_outputs.specs.declared.hit.Hit.{Hit}
use Rattle.ux_outputs.specs.declared.span.Span.{Span}
use Rattle.ux_outputs.specs.Following.{FollowWithin}
use Rattle.ux_outputs.specs.Variables.{Asked, Named, asked_by, input, is_set, is_unset, named_by, output, value_of}
use Rattle.ux_outputs.specs.Rendering.{State, after_asked, after_begin, after_end, after_event, after_test, after_value, begin_of, past_spaces, render, rendered_from, span_after, state_at}
use Rattle.ux_outputs.proofs.FollowingLemmas.{FollowWithin-later, FollowWithin-start, after_event-position, position_after}
use Rattle.ux_outputs.proofs.TakeLemmas.{span_after-cases}
use Rattle.ux_cascade.specs.Rewriting.{LiesIn}

-- what puts nothing in and takes nothing leaves the span
span-value : (novar : NoVar) (state next : State) (value : Option (List ℕ)) →
    after_value novar state value ≡ Some next → next.span ≡ state.span
span-value novar state next (Some value) e = ap (λ (s : State). s.span) (same_Some next _ (sym e))
span-value Nothing state next None e = ap (λ (s : State). s.span) (same_Some next state (sym e))
span-value Drop state next None e = absurd (none-some next e)

span-test : (state next : State) (holds : Bool) → after_test state holds ≡ Some next →
    next.span ≡ state.span
span-test state next true e = ap (λ (s : State). s.span) (same_Some next state (sym e))
span-test state next false e = absurd (none-some next e)

span-asked : (novar : NoVar) (state next : State) (asked : Asked) →
    after_asked novar state asked ≡ Some next → next.span ≡ state.span
span-asked novar state next (value_of name) e =
    span-value novar state next (state.variables name).value e
span-asked novar state next (is_set name) e = span-test state next _ e
span-asked novar state next (is_unset name) e = span-test state next _ e

span-begin : (state : State) (named : Named) → (after_begin state named).span ≡ state.span
span-begin state (input name) = refl
span-begin state (output name) = refl

span-end : (tokens : List Token) (state : State) (named : Named) →
    (after_end tokens state named).span ≡ state.span
span-end tokens state (input name) = refl
span-end tokens state (output name) = refl

-- the span, where there is one, is in order and ends before the position
abbrev IsSpanned : ℕ → Option Span → Type 0
IsSpanned position span = IfSome span (λ s. (s.first ≤ s.last) × (s.last < position))

module _ (tokens : List Token) where
  spanned-take : (span : Option Span) (from to : ℕ) → IsSpanned from span → from < to →
      IsSpanned to (span_after span (begin_of tokens span from to) to)
  spanned-take None from to lies some =
      elim (span_after-cases (past_spaces tokens from to) to) [
        | inl taken ↦ subst (IsSpanned to) (sym taken.1)
            (omega (arith, taken.0), omega (arith, some))
        | inr none ↦ subst (IsSpanned to) (sym none.1) tt
      ]
  spanned-take (Some span) from to lies some =
      (omega (arith, lies.0, lies.1, some), omega (arith, some))

  module _ (mode : Mode) (novar : NoVar) where
    spanned-same : (position : ℕ) (old new : Option Span) → IsSpanned position old → new ≡ old →
        IsSpanned position new
    spanned-same position old new lies same = subst (IsSpanned position) (sym same) lies

    spanned-taken : (state next : State) (from to : ℕ) (later : List Event) →
        IsSpanned state.position state.span →
        FollowWithin tokens state.position (Take from to ∷ later) →
        after_event mode novar tokens state (Take from to) ≡ Some next → IsSpanned to next.span
    spanned-taken state next from to later lies follow e =
        spanned-same to _ next.span
        (spanned-take state.span from to
        (subst (λ n. IsSpanned n state.span) (sym follow.follows.0) lies)
        (omega (arith, follow.follows.0, follow.follows.1)))
        (ap (λ (s : State). s.span) (same_Some next _ (sym e)))

  -- an event of the text leaves it so
  spanned-event : (mode : Mode) (novar : NoVar) (state next : State) (event : Event)
      (later : List Event) → IsSpanned state.position state.span →
      FollowWithin tokens state.position (event ∷ later) →
      after_event mode novar tokens state event ≡ Some next →
      IsSpanned (position_after state.position event) next.span
  spanned-event mode novar state next (Take from to) later lies follow e =
      spanned-taken mode novar state next from to later lies follow e
  spanned-event Ignore novar state next (Put text) later lies follow e =
      spanned-same Ignore novar state.position state.span next.span lies
      (ap (λ (s : State). s.span) (same_Some next _ (sym e)))
  spanned-event Merge novar state next (Put text) later lies follow e =
      spanned-same Merge novar state.position state.span next.span lies
      (ap (λ (s : State). s.span) (same_Some next _ (sym e)))
  spanned-event Replace novar state next (Put text) later lies follow e =
      spanned-same Replace novar state.position state.span next.span lies
      (ap (λ (s : State). s.span) (same_Some next _ (sym e)))
  spanned-event Ignore novar state next (Value text) later lies follow e =
      spanned-same Ignore novar state.position state.span next.span lies
      (ap (λ (s : State). s.span) (same_Some next _ (sym e)))
  spanned-event Merge novar state next (Value text) later lies follow e =
      spanned-same Merge novar state.position state.span next.span lies
      (span-asked novar state next (asked_by text) e)
  spanned-event Replace novar state next (Value text) later lies follow e =
      spanned-same Replace novar state.position state.span next.span lies
      (span-asked novar state next (asked_by text) e)
  spanned-event mode novar state next (Begin text) later lies follow e =
      spanned-same mode novar state.position state.span next.span lies
      (ap (λ (s : State). s.span) (same_Some next _ (sym e)) ∙ span-begin state (named_by text))
  spanned-event mode novar state next (End text) later lies follow e =
      spanned-same mode novar state.position state.span next.span lies
      (ap (λ (s : State). s.span) (same_Some next _ (sym e))
      ∙ span-end tokens state (named_by text))
  spanned-event mode novar state next Cut later lies follow e =
      spanned-same mode novar state.position None next.span tt
      (ap (λ (s : State). s.span) (same_Some next _ (sym e)))

  -- the hit of a span that does lies in the text
  hit_lies : (text : List ℕ) (position : ℕ) (span : Option Span) (hit : Hit) →
      IsSpanned position span → position ≤ length tokens →
      option_map (λ (s : Span). record { first = s.first; last = s.last; text = text }) span
      ≡ Some hit →
      LiesIn tokens hit
  hit_lies text position None hit lies within e = absurd (none-some hit e)
  hit_lies text position (Some span) hit lies within e =
      subst (LiesIn tokens) (same_Some (record {
        first = span.first;
        last = span.last;
        text = text;
      }) hit e) (record { in_order = lies.0; within = omega (arith, lies.1, within) })

  module _ (mode : Mode) (novar : NoVar) (hit : Hit) where
    -- what is rendered of a state lies in the text
    abbrev RendersIn : List Event → Type 0
    RendersIn events = (state : State) → IsSpanned state.position state.span →
        FollowWithin tokens state.position events →
        rendered_from mode novar tokens state events ≡ Some hit → LiesIn tokens hit

    later_lies : (state : State) (event : Event) (later : List Event) → RendersIn later →
        IsSpanned state.position state.span → FollowWithin tokens state.position (event ∷ later) →
        (next : Option State) → after_event mode novar tokens state event ≡ next →
        option_and_then (λ s. rendered_from mode novar tokens s later) next ≡ Some hit →
        LiesIn tokens hit
    later_lies state event later lie lies follow None is e = absurd (none-some hit e)
    later_lies state event later lie lies follow (Some next) is e =
        let position = sym (after_event-position novar tokens state next mode event is) in
        lie next
        (subst (λ (p : ℕ). IsSpanned p next.span) position
        (spanned-event mode novar state next event later lies follow is))
        (subst (λ (p : ℕ). FollowWithin tokens p later) position
        (FollowWithin-later tokens state.position event later follow)) e

    rendered_from_lies : (events : List Event) → RendersIn events
    rendered_from_lies [] state lies follow e =
        hit_lies state.text state.position state.span hit lies
        (FollowWithin-start tokens state.position [] follow) e
    rendered_from_lies (event ∷ later) state lies follow e =
        later_lies state event later (rendered_from_lies later) lies follow
        (after_event mode novar tokens state event) refl e

    -- a hit that events through the text render lies in it
    pub rendered_lies : (start : ℕ) (events : List Event) → FollowWithin tokens start events →
        render tokens mode novar start events ≡ Some hit → LiesIn tokens hit
    rendered_lies start events follow e = rendered_from_lies events (state_at start) tt follow e
