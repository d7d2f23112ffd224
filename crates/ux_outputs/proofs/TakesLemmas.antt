-- What tokens alone render where outputs are ignored: the text from the start to the end.
use Rattle.std.specs.Prelude.{◌≡◌, ℕ, ◌-◌, ◌<◌, ◌≤◌, List, [], ◌∷◌, ◌++◌, Option, Some, None, refl}
use Rattle.std.proofs.Common.{◌∙◌, ap, arith, subst, sym}
use Rattle.ux_base.specs.declared.settings.Mode.TheVariants.{Ignore}
use Rattle.ux_base.specs.declared.settings.NoVar.{NoVar}
use Rattle.ux_tokens.specs.Tokens.{Token}
use Rattle.ux_outputs.specs.declared.event.Event.{Event}
use Rattle.ux_outputs.specs.declared.event.Event.TheVariants.{Take, Put, Value, Begin, End, Cut}
use Rattle.ux_outputs.specs.declared.hit.Hit.{Hit}
use Rattle.ux_outputs.specs.declared.span.Span.{Span}
use Rattle.ux_outputs.specs.Following.{AreTakes, Follows}
use Rattle.ux_outputs.specs.Variables.{Named, NO_VARIABLES, Variables, input, named_by, output}
use Rattle.ux_outputs.specs.Rendering.{IsNoSpaceAt, State, after_begin, after_end, after_take, past_spaces, render, rendered_from, span_after, text_between}
use Rattle.ux_outputs.proofs.IgnoredLemmas.{other}
use Rattle.ux_outputs.proofs.TakeLemmas.{span_after-some}
use Rattle.ux_outputs.proofs.TakingLemmas.{past_spaces-other}
use Rattle.ux_outputs.proofs.TextLemmas.{text_between-join}

-- no event leaves out what stands to the left
abbrev pub AreUncut : List Event → Type 0
AreUncut [] = Unit {0}
AreUncut (Cut ∷ later) = ⊥
AreUncut (_ ∷ later) = AreUncut later

-- tokens alone follow each other, with no cut among them
takes-follow : (start end : ℕ) (events : List Event) → AreTakes start end events →
    Follows start end events × AreUncut events
takes-follow start end [] same = (same, tt)
takes-follow start end (event ∷ later) (to, is, lt, rest) =
    let r = takes-follow to end later rest in
    subst (λ (e : Event). Follows start end (e ∷ later) × AreUncut (e ∷ later)) (sym is)
    ((refl, lt, r.0), r.1)

module _ (tokens : List Token) (novar : NoVar) where
  -- the hit of the tokens from one position to another
  abbrev pub hit_between : ℕ → ℕ → Hit
  hit_between first end =
      record { first = first; last = end - 1; text = text_between tokens first end }

  -- the state after the tokens from one position to another
  abbrev between : ℕ → ℕ → Variables → State
  between first position variables = record {
    position = position;
    text = text_between tokens first position;
    span = Some (record { first = first; last = position - 1 });
    variables = variables;
  }

  -- the state before the first token
  abbrev fresh : ℕ → Variables → State
  fresh position variables =
      record { position = position; text = []; span = None; variables = variables }

  -- a begin and an end change variables alone
  begins : (state : State) (named : Named) →
      after_begin state named
      ≡ record state { variables = (after_begin state named).variables }
  begins state (input name) = refl
  begins state (output name) = refl

  ends : (state : State) (named : Named) →
      after_end tokens state named
      ≡ record state { variables = (after_end tokens state named).variables }
  ends state (input name) = refl
  ends state (output name) = refl

  later_from : State → List Event → Option Hit
  later_from state later = rendered_from Ignore novar tokens state later

  goes_on : (first position end : ℕ) (variables : Variables) (events : List Event) →
      first ≤ position → Follows position end events → AreUncut events →
      rendered_from Ignore novar tokens (between first position variables) events
      ≡ Some (hit_between first end)
  goes_on first position end variables [] le follows uncut =
      ap (λ n. Some (hit_between first n)) follows
  goes_on first position end variables (Take from to ∷ later) le follows uncut =
      let text : text_between tokens first position ++ text_between tokens from to
      ≡ text_between tokens first to =
      ap (λ n. text_between tokens first position ++ text_between tokens n to) follows.0
      ∙ text_between-join tokens first position to le (omega (arith, follows.1)) in
      ap (λ (t : List ℕ). rendered_from Ignore novar tokens
      (record (between first to variables) { text = t }) later) text
      ∙ goes_on first to end variables later (omega (arith, le, follows.1)) follows.2 uncut
  goes_on first position end variables (Put text ∷ later) le follows uncut =
      goes_on first position end variables later le follows uncut
  goes_on first position end variables (Value text ∷ later) le follows uncut =
      goes_on first position end variables later le follows uncut
  goes_on first position end variables (Begin text ∷ later) le follows uncut =
      ap (λ (s : State). rendered_from Ignore novar tokens s later)
      (begins (between first position variables) (named_by text))
      ∙ goes_on first position end
      (after_begin (between first position variables) (named_by text)).variables later le follows
      uncut
  goes_on first position end variables (End text ∷ later) le follows uncut =
      ap (λ (s : State). rendered_from Ignore novar tokens s later)
      (ends (between first position variables) (named_by text))
      ∙ goes_on first position end
      (after_end tokens (between first position variables) (named_by text)).variables later le
      follows uncut
  goes_on first position end variables (Cut ∷ later) le follows uncut = absurd uncut

  starts : (start end : ℕ) (variables : Variables) (events : List Event) →
      IsNoSpaceAt tokens start → Follows start end events → start < end → AreUncut events →
      rendered_from Ignore novar tokens (fresh start variables) events
      ≡ Some (hit_between start end)
  starts start end variables [] here follows lt uncut = absurd (omega (arith, follows, lt))
  starts start end variables (Take from to ∷ later) here follows lt uncut =
      let begin : past_spaces tokens start to ≡ start =
      past_spaces-other tokens start to here.token here.at_place follows.1
      (other here.token.kind here.no_space) in
      ap (λ n. rendered_from Ignore novar tokens
      (after_take Ignore tokens (fresh start variables) n to) later) follows.0
      ∙ (ap (λ n. rendered_from Ignore novar tokens (record (between start to variables) {
        text = text_between tokens n to;
        span = span_after None n to;
      }) later) begin
      ∙ (ap (λ (o : Option Span). rendered_from Ignore novar tokens
      (record (between start to variables) { span = o }) later)
      (span_after-some start to follows.1)
      ∙ goes_on start to end variables later (omega (arith, follows.1)) follows.2 uncut))
  starts start end variables (Put text ∷ later) here follows lt uncut =
      starts start end variables later here follows lt uncut
  starts start end variables (Value text ∷ later) here follows lt uncut =
      starts start end variables later here follows lt uncut
  starts start end variables (Begin text ∷ later) here follows lt uncut =
      ap (λ (s : State). rendered_from Ignore novar tokens s later)
      (begins (fresh start variables) (named_by text))
      ∙ starts start end (after_begin (fresh start variables) (named_by text)).variables later here
      follows lt uncut
  starts start end variables (End text ∷ later) here follows lt uncut =
      ap (λ (s : State). rendered_from Ignore novar tokens s later)
      (ends (fresh start variables) (named_by text))
      ∙ starts start end (after_end tokens (fresh start variables) (named_by text)).variables later
      here follows lt uncut
  starts start end variables (Cut ∷ later) here follows lt uncut = absurd uncut

  -- events without a cut render all tokens that they take, where outputs are ignored
  pub renders_uncut : (start end : ℕ) (events : List Event) → IsNoSpaceAt tokens start →
      Follows start end events → start < end → AreUncut events →
      render tokens Ignore novar start events ≡ Some (hit_between start end)
  renders_uncut start end events here follows lt uncut =
      starts start end NO_VARIABLES events here follows lt uncut

  -- and so do tokens alone
  pub renders_takes : (start end : ℕ) (events : List Event) → IsNoSpaceAt tokens start →
      start < end → AreTakes start end events →
      render tokens Ignore novar start events ≡ Some (hit_between start end)
  renders_takes start end events here lt takes =
      let r = takes-follow start end events takes in
      renders_uncut start end events here r.0 lt r.1
