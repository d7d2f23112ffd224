-- A rendering that takes tokens: its state is the one after them.
use Rattle.std.specs.Prelude.{◌≡◌, ◌⊎◌, ℕ, ◌-◌, ◌<◌, ◌≤◌, List, ◌++◌, Option, Some, None, IfSome, length, string_bytes}
use Rattle.std.proofs.Common.{◌∙◌, ap, sym, subst, arith, inl, inr, append_assoc}
use Rattle.std.proofs.lemmas.Bool.Decides.{leb_tells, nat_tests}
use Rattle.std.proofs.lemmas.Option.{none-some}
use Rattle.ux_base.specs.declared.settings.Mode.{Mode}
use Rattle.ux_tokens.specs.Tokens.{Token}
use Rattle.ux_outputs.specs.declared.rendering.Rendering.{Rendering}
use Rattle.ux_outputs.specs.declared.span.Span.{Span}
use Rattle.ux_outputs.specs.Rendering.{State, after_take, past_spaces, span_after, text_taken}
use Rattle.ux_outputs.specs.Kept.{IsKept, IsSpanWithin, state_of}
use Rattle.ux_outputs.proofs.TakingLemmas.{past_spaces-within}
use Rattle.ux_outputs.proofs.TextLemmas.{append-text_taken-none, text_taken-join}

-- the span of a first take is there exactly where a token is taken
pub span_after-cases : (begin to : ℕ) →
    ((begin < to)
    × (span_after None begin to ≡ Some (record { first = begin; last = to - 1 })))
    ⊎ ((to ≤ begin) × (span_after None begin to ≡ None))
span_after-cases begin to = elim (leb_tells to begin) [
  | inl past ↦ inr (past.1, grind (arith, nat_tests))
  | inr before ↦ inl (before.1, grind (arith, nat_tests))
]

pub span_after-some : (begin to : ℕ) → begin < to →
    span_after None begin to ≡ Some (record { first = begin; last = to - 1 })
span_after-some begin to lt = elim (span_after-cases begin to) [
  | inl some ↦ some.1
  | inr none ↦ absurd (omega (arith, lt, none.0))
]

module _ (mode : Mode) (tokens : List Token) (old : Rendering) (from to : ℕ) where
  after : Option Span → List ℕ → State
  after span text =
      after_take mode tokens
      (record (state_of mode tokens old) { span = span; text = text }) from to

  -- the state after a first take
  pub state_of-take_first : old.span ≡ None → old.unwritten ≡ old.position →
      state_of mode tokens (record old {
        position = to;
        span = span_after None (past_spaces tokens from to) to;
        unwritten = past_spaces tokens from to;
      })
      ≡ after_take mode tokens (state_of mode tokens old) from to
  unfolding after
  state_of-take_first fresh same =
      let text : string_bytes old.written
      ++ text_taken mode tokens old.unwritten old.position ≡ string_bytes old.written =
      ap (λ p. string_bytes old.written ++ text_taken mode tokens p old.position) same
      ∙ append-text_taken-none tokens (string_bytes old.written) mode old.position in
      sym (ap (λ (o : Option Span). after o
      (string_bytes old.written ++ text_taken mode tokens old.unwritten old.position)) fresh
      ∙ ap (after None) text)

  -- the state after another take
  pub state_of-take_on : (span : Span) → old.span ≡ Some span → from ≡ old.position →
      old.unwritten ≤ old.position → old.position ≤ to →
      state_of mode tokens (record old {
        position = to;
        span = Some (record span { last = to - 1 });
      })
      ≡ after_take mode tokens (state_of mode tokens old) from to
  state_of-take_on span begun here le le' =
      let text : (string_bytes old.written ++ text_taken mode tokens old.unwritten old.position)
      ++ text_taken mode tokens from to
      ≡ string_bytes old.written ++ text_taken mode tokens old.unwritten to =
      ap (λ p. (string_bytes old.written ++ text_taken mode tokens old.unwritten old.position)
      ++ text_taken mode tokens p to) here
      ∙ (append_assoc (string_bytes old.written)
      (text_taken mode tokens old.unwritten old.position)
      (text_taken mode tokens old.position to)
      ∙ ap (λ t. string_bytes old.written ++ t)
      (text_taken-join tokens mode old.unwritten old.position to le le')) in
      let moved : State = state_of mode tokens (record old {
        position = to;
        span = Some (record span { last = to - 1 });
      }) in
      sym (ap (λ (o : Option Span). after_take mode tokens
      (record (state_of mode tokens old) { span = o }) from to) begun
      ∙ ap (λ (t : List ℕ). record moved { text = t }) text)

-- a rendering is kept through a first take
pub IsKept-take_first : (tokens : List Token) (old : Rendering) (from to : ℕ) →
    IsKept tokens old → from ≤ to → to ≤ length tokens →
    IsKept tokens (record old {
      position = to;
      span = span_after None (past_spaces tokens from to) to;
      unwritten = past_spaces tokens from to;
    })
IsKept-take_first tokens old from to kept le within =
    let place = past_spaces-within tokens from to le within in
    record {
      within = within;
      waiting = place.1;
      fresh = λ none. elim (span_after-cases (past_spaces tokens from to) to) [
        | inl some ↦ absurd (none-some (record {
          first = past_spaces tokens from to;
          last = to - 1;
        }) (sym none ∙ some.1))
        | inr empty ↦ (omega (arith, place.1, empty.0))
      ];
      span = elim (span_after-cases (past_spaces tokens from to) to) [
        | inl some ↦ subst (λ (o : Option Span). IfSome o (IsSpanWithin tokens)) (sym some.1)
            (record { first = omega (arith, some.0, within); last = omega (arith, some.0, within) })
        | inr empty ↦ subst (λ (o : Option Span). IfSome o (IsSpanWithin tokens)) (sym empty.1) tt
      ];
      known = kept.known;
      closed = kept.closed;
    }
