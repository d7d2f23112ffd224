-- A hit begins where its derivation does, as long as no event cuts anything off.
use Rattle.std.proofs.Common.{arith, ◌≡◌, ℕ, ◌-◌, ◌<◌, ◌⊎◌, inl, inr, List, [], ◌∷◌, Option, Some, None, refl, sym, ◌∙◌, ap, subst}
use Rattle.std.specs.Prelude.{option_and_then, option_map}
use Rattle.std.proofs.lemmas.Option.{none-some, same_Some}
use Rattle.ux_base.specs.declared.settings.Mode.{Mode}
use Rattle.ux_base.specs.declared.settings.Mode.TheVariants.{Ignore, Merge, Replace}
use Rattle.ux_base.specs.declared.settings.NoVar.{NoVar}
use Rattle.ux_tokens.specs.Tokens.{Token}
use Rattle.ux_outputs.specs.declared.event.Event.{Event}
use Rattle.ux_outputs.specs.declared.event.Event.TheVariants.{Take, Put, Value, Begin, End, Cut}
use Rattle.ux_outputs.specs.declared.hit.Hit.{Hit}
use Rattle.ux_outputs.specs.declared.span.Span.{Span}
use Rattle.ux_outputs.specs.Following.{Follows}
use Rattle.ux_outputs.specs.Rendering.{IsNoSpaceAt, State, after_begin, after_end, after_put, after_take, begin_of, hit_of, past_spaces, render, rendered_from, span_after, state_at}
use Rattle.ux_outputs.specs.Variables.{asked_by, named_by}
use Rattle.ux_outputs.proofs.IgnoredLemmas.{other}
use Rattle.ux_outputs.proofs.TakeLemmas.{span_after-some}
use Rattle.ux_outputs.proofs.TakesLemmas.{AreUncut}
use Rattle.ux_outputs.proofs.TakingLemmas.{past_spaces-other}
use Rattle.ux_locate.proofs.FreshLemmas.{asked_keeps, begin_keeps, end_keeps}

module _ (tokens : List Token) (novar : NoVar) (start : ℕ) (here : IsNoSpaceAt tokens start) where
  -- nothing was taken yet, or the first token that was taken is that of the start
  abbrev Begins : Option Span → (position : ℕ) → Type 0
  Begins span position = ((span ≡ None) × (position ≡ start))
      ⊎ ((some : Span) × (span ≡ Some some) × (some.first ≡ start))

  -- tokens that are taken keep it so
  take_begins : (span : Option Span) (from to : ℕ) → Begins span from → from < to →
      Begins (span_after span (begin_of tokens span from to) to) to
  take_begins span from to (inl (fresh, at)) lt =
      let begin : past_spaces tokens from to ≡ start =
      ap (λ n. past_spaces tokens n to) at
      ∙ past_spaces-other tokens start to here.token here.at_place (omega (arith, lt, at))
      (other here.token.kind here.no_space) in
      inr (
        record { first = start; last = to - 1 },
        ap (λ (o : Option Span). span_after o (begin_of tokens o from to) to) fresh
            ∙ (ap (λ n. span_after None n to) begin
            ∙ span_after-some start to (omega (arith, lt, at))),
        refl,
      )
  take_begins span from to (inr (some, is, first)) lt = inr (
    record some { last = to - 1 },
    ap (λ (o : Option Span). span_after o (begin_of tokens o from to) to) is,
    first,
  )

  hit_begins : (state : State) (position : ℕ) (hit : Hit) → Begins state.span position →
      hit_of state ≡ Some hit → hit.first ≡ start
  hit_begins state position hit (inl (fresh, at)) e =
      absurd (none-some hit (ap (λ (o : Option Span). option_map (λ (span : Span). record {
        first = span.first;
        last = span.last;
        text = state.text;
      }) o) (sym fresh) ∙ e))
  hit_begins state position hit (inr (some, is, first)) e =
      let same : hit ≡ record { first = some.first; last = some.last; text = state.text } =
      sym (same_Some (record { first = some.first; last = some.last; text = state.text }) hit
      (ap (λ (o : Option Span). option_map (λ (span : Span). record {
        first = span.first;
        last = span.last;
        text = state.text;
      }) o) (sym is) ∙ e)) in
      ap (λ (h : Hit). h.first) same ∙ first

  abbrev renders_on : Mode → List Event → Option State → Option Hit
  renders_on mode later after =
      option_and_then (λ (next : State). rendered_from mode novar tokens next later) after

  abbrev same_begins : (span other : Option Span) (position : ℕ) → other ≡ span →
      Begins span position → Begins other position
  same_begins span other position same b =
      subst (λ (o : Option Span). Begins o position) (sym same) b

  rendered_begins : (mode : Mode) (state : State) (position end : ℕ) (events : List Event)
      (hit : Hit) → Begins state.span position → Follows position end events → AreUncut events →
      rendered_from mode novar tokens state events ≡ Some hit → hit.first ≡ start
  rendered_begins mode state position end [] hit b follows uncut e =
      hit_begins state position hit b e
  rendered_begins mode state position end (Take from to ∷ later) hit b follows uncut e =
      let at : Begins state.span from =
      subst (λ (n : ℕ). Begins state.span n) (sym follows.0) b in
      rendered_begins mode (after_take mode tokens state from to) to end later hit
      (take_begins state.span from to at (omega (arith, follows.0, follows.1)))
      follows.2 uncut e
  rendered_begins Ignore state position end (Put text ∷ later) hit b follows uncut e =
      rendered_begins Ignore state position end later hit b follows uncut e
  rendered_begins Merge state position end (Put text ∷ later) hit b follows uncut e =
      rendered_begins Merge (after_put state text) position end later hit b follows uncut e
  rendered_begins Replace state position end (Put text ∷ later) hit b follows uncut e =
      rendered_begins Replace (after_put state text) position end later hit b follows uncut e
  rendered_begins Ignore state position end (Value text ∷ later) hit b follows uncut e =
      rendered_begins Ignore state position end later hit b follows uncut e
  rendered_begins Merge state position end (Value text ∷ later) hit b follows uncut e =
      elim (asked_keeps novar state (asked_by text)) [
        | inl none ↦ absurd (none-some hit (ap (renders_on Merge later) (sym none) ∙ e))
        | inr (next, is, same) ↦
            rendered_begins Merge next position end later hit
            (same_begins state.span next.span position same b) follows uncut
            (ap (renders_on Merge later) (sym is) ∙ e)
      ]
  rendered_begins Replace state position end (Value text ∷ later) hit b follows uncut e =
      elim (asked_keeps novar state (asked_by text)) [
        | inl none ↦ absurd (none-some hit (ap (renders_on Replace later) (sym none) ∙ e))
        | inr (next, is, same) ↦
            rendered_begins Replace next position end later hit
            (same_begins state.span next.span position same b) follows uncut
            (ap (renders_on Replace later) (sym is) ∙ e)
      ]
  rendered_begins mode state position end (Begin text ∷ later) hit b follows uncut e =
      rendered_begins mode (after_begin state (named_by text)) position end later hit
      (same_begins state.span (after_begin state (named_by text)).span position
      (begin_keeps state (named_by text)) b) follows uncut e
  rendered_begins mode state position end (End text ∷ later) hit b follows uncut e =
      rendered_begins mode (after_end tokens state (named_by text)) position end later hit
      (same_begins state.span (after_end tokens state (named_by text)).span position
      (end_keeps tokens state (named_by text)) b) follows uncut e
  rendered_begins mode state position end (Cut ∷ later) hit b follows uncut e = absurd uncut

  -- so the hit that a derivation from the start renders begins there
  pub renders_from_start : (mode : Mode) (end : ℕ) (events : List Event) (hit : Hit) →
      Follows start end events → AreUncut events →
      render tokens mode novar start events ≡ Some hit → hit.first ≡ start
  renders_from_start mode end events hit follows uncut e =
      rendered_begins mode (state_at start) start end events hit (inl (refl, refl)) follows uncut e
