-- What is rendered where outputs are ignored: the text of the tokens from the first to the last one.
use Rattle.std.specs.Prelude.{◌≡◌, ◌≢◌, ◌⊎◌, ℕ, zero, suc, ◌+◌, ◌-◌, ◌<◌, ◌≤◌, Bool, true, false, List, [], ◌∷◌, ◌++◌, Option, Some, None, refl, length, option_map, slice_get}
use Rattle.std.proofs.Common.{◌∙◌, ap, sym, subst, arith, inl, inr}
use Rattle.std.proofs.lemmas.Option.{none-some, same_Some}
use Rattle.ux_base.specs.declared.settings.Mode.TheVariants.{Ignore}
use Rattle.ux_base.specs.declared.settings.NoVar.{NoVar}
use Rattle.ux_tokens.specs.declared.kind.Kind.{Kind}
use Rattle.ux_tokens.specs.declared.kind.Kind.TheVariants as kind
use Rattle.ux_tokens.specs.Tokens.{Token}
use Rattle.ux_outputs.specs.declared.event.Event.{Event}
use Rattle.ux_outputs.specs.declared.event.Event.TheVariants.{Take, Put, Value, Begin, End, Cut}
use Rattle.ux_outputs.specs.declared.hit.Hit.{Hit}
use Rattle.ux_outputs.specs.declared.span.Span.{Span}
use Rattle.ux_outputs.specs.Following.{Follows}
use Rattle.ux_outputs.specs.Variables.{Named, input, named_by, output}
use Rattle.ux_outputs.specs.Rendering.{IsNoSpaceAt, State, after_begin, after_cut, after_end, after_take, begin_of, is_space, past_spaces, render, rendered_from, span_after, state_at, text_between}
use Rattle.ux_outputs.proofs.FollowingLemmas.{Follows-forward, stays-begin, stays-end}
use Rattle.ux_outputs.proofs.TakeLemmas.{span_after-cases}
use Rattle.ux_outputs.proofs.TakingLemmas.{past_spaces-other, past_spaces-space, past_spaces-within}
use Rattle.ux_outputs.proofs.TextLemmas.{text_between-join, text_between-none}

-- the hit's text is that of its tokens, which are the last ones of those from the start to the end
pub record IsPlain (tokens : List Token) (start end : ℕ) (hit : Hit) : Type 0 where
  pub text : hit.text ≡ text_between tokens hit.first (hit.last + 1)
  pub first : start ≤ hit.first
  pub in_order : hit.first ≤ hit.last
  pub last : hit.last + 1 ≡ end
  pub begins : IsNoSpaceAt tokens hit.first

no_space : (k : Kind) → is_space k ≡ false → k ≢ kind.Space
no_space kind.Space is same = cc
no_space kind.Word is same = cc
no_space kind.Other is same = cc
no_space kind.Sentence is same = cc
no_space kind.Stop is same = cc
no_space kind.Tag is same = cc

pub other : (k : Kind) → k ≢ kind.Space → is_space k ≡ false
other kind.Space ne = absurd (ne refl)
other kind.Word ne = refl
other kind.Other ne = refl
other kind.Sentence ne = refl
other kind.Stop ne = refl
other kind.Tag ne = refl

-- a token stands at each position before the end
token_at : (tokens : List Token) (p : ℕ) → p < length tokens →
    (token : Token) × (slice_get tokens p ≡ Some token)
token_at [] p lt = absurd (omega (arith, lt))
token_at (token ∷ later) zero lt = (token, refl)
token_at (token ∷ later) (suc p) lt = token_at later p (omega (arith, lt))

module _ (tokens : List Token) where
  -- after one more space, or at the token that ends them
  past_spaces-one : (from to : ℕ) (token : Token) → slice_get tokens from ≡ Some token →
      from < to → (b : Bool) → is_space token.kind ≡ b →
      (past_spaces tokens (from + 1) to < to → IsNoSpaceAt tokens (past_spaces tokens (from + 1) to)) →
      past_spaces tokens from to < to → IsNoSpaceAt tokens (past_spaces tokens from to)
  past_spaces-one from to token at before true is later lt =
      let next = past_spaces-space tokens from to token at before is in
      subst (IsNoSpaceAt tokens) (sym next) (later (subst (λ n. n < to) next lt))
  past_spaces-one from to token at before false is later lt =
      subst (IsNoSpaceAt tokens) (sym (past_spaces-other tokens from to token at before is))
      (record { token = token; at_place = at; no_space = no_space token.kind is })

  -- a token but a space stands after the spaces, unless all are spaces
  past_spaces-no_space : (n from to : ℕ) → from + n ≡ to → to ≤ length tokens →
      past_spaces tokens from to < to → IsNoSpaceAt tokens (past_spaces tokens from to)
  past_spaces-no_space zero from to count within lt =
      absurd (let place = past_spaces-within tokens from to (omega (arith, count)) within in
      omega (arith, place.0, lt, count))
  past_spaces-no_space (suc n) from to count within lt =
      let first = token_at tokens from (omega (arith, count, within)) in
      past_spaces-one from to first.0 first.1 (omega (arith, count)) (is_space first.0.kind) refl
      (past_spaces-no_space n (from + 1) to (omega (arith, count)) within) lt

module _ (tokens : List Token) (start : ℕ) where
  -- the span of a rendering that ignores outputs, and its text
  record IsBegun (position : ℕ) (text : List ℕ) (span : Span) : Type 0 where
    pub text_is : text ≡ text_between tokens span.first position
    pub first : start ≤ span.first
    pub in_order : span.first ≤ span.last
    pub last : span.last + 1 ≡ position
    pub begins : IsNoSpaceAt tokens span.first

  -- there is a text only once a token was taken that is no space
  abbrev Ignores : Option Span → ℕ → List ℕ → Type 0
  Ignores None position text = text ≡ []
  Ignores (Some span) position text = IsBegun position text span

  record IsIgnoring (state : State) : Type 0 where
    pub later : start ≤ state.position
    pub ignores : Ignores state.span state.position state.text

  ignoring-span : (span : Option Span) (text : List ℕ) (from to : ℕ) → start ≤ from → from < to →
      to ≤ length tokens → Ignores span from text →
      Ignores (span_after span (begin_of tokens span from to) to) to
      (text ++ text_between tokens (begin_of tokens span from to) to)
  ignoring-span (Some span) text from to late lt within begun = record {
    text_is =
        ap (λ t. t ++ text_between tokens from to) begun.text_is
        ∙ text_between-join tokens span.first from to (omega (arith, begun.in_order, begun.last))
        (omega (arith, lt));
    first = begun.first;
    in_order = omega (arith, begun.in_order, begun.last, lt);
    last = omega (arith, lt);
    begins = begun.begins;
  }
  ignoring-span None text from to late lt within empty =
      by (span_after-cases (past_spaces tokens from to) to)
    where
      place : (from ≤ past_spaces tokens from to) × (past_spaces tokens from to ≤ to)
      place = past_spaces-within tokens from to (omega (arith, lt)) within

      by : ((past_spaces tokens from to < to)
          × (span_after None (past_spaces tokens from to) to
          ≡ Some (record { first = past_spaces tokens from to; last = to - 1 })))
          ⊎ ((to ≤ past_spaces tokens from to)
          × (span_after None (past_spaces tokens from to) to ≡ None)) →
          Ignores (span_after None (past_spaces tokens from to) to) to
          (text ++ text_between tokens (past_spaces tokens from to) to)
      by (inl some) =
          subst (λ (o : Option Span). Ignores o to
          (text ++ text_between tokens (past_spaces tokens from to) to)) (sym some.1) (record {
            text_is = ap (λ t. t ++ text_between tokens (past_spaces tokens from to) to) empty;
            first = omega (arith, place.0, late);
            in_order = omega (arith, some.0);
            last = omega (arith, lt);
            begins =
                past_spaces-no_space tokens (to - from) from to (omega (arith, lt)) within some.0;
          })
      by (inr none) =
          subst (λ (o : Option Span). Ignores o to
          (text ++ text_between tokens (past_spaces tokens from to) to)) (sym none.1)
          (ap (λ t. t ++ text_between tokens (past_spaces tokens from to) to) empty
          ∙ text_between-none tokens (past_spaces tokens from to) to none.0)

  ignoring-begin : (state : State) (named : Named) → IsIgnoring state →
      IsIgnoring (after_begin state named)
  ignoring-begin state (input name) is = record { later = is.later; ignores = is.ignores }
  ignoring-begin state (output name) is = record { later = is.later; ignores = is.ignores }

  ignoring-end : (state : State) (named : Named) → IsIgnoring state →
      IsIgnoring (after_end tokens state named)
  ignoring-end state (input name) is = record { later = is.later; ignores = is.ignores }
  ignoring-end state (output name) is = record { later = is.later; ignores = is.ignores }

  plain-end : (span : Option Span) (position : ℕ) (text : List ℕ) (hit : Hit) →
      Ignores span position text →
      option_map (λ s. record { first = s.first; last = s.last; text = text }) span ≡ Some hit →
      IsPlain tokens start position hit
  plain-end None position text hit empty e = absurd (none-some hit e)
  plain-end (Some span) position text hit begun e =
      subst (IsPlain tokens start position)
      (sym (same_Some hit (record { first = span.first; last = span.last; text = text })
      (sym e)))
      (record {
        text =
            begun.text_is ∙ ap (λ n. text_between tokens span.first n) (sym begun.last);
        first = begun.first;
        in_order = begun.in_order;
        last = begun.last;
        begins = begun.begins;
      })

  ignored_from : (novar : NoVar) (state : State) (end : ℕ) (events : List Event) (hit : Hit) →
      IsIgnoring state → Follows state.position end events → end ≤ length tokens →
      rendered_from Ignore novar tokens state events ≡ Some hit → IsPlain tokens start end hit
  ignored_from novar state end [] hit is follows within e =
      subst (λ n. IsPlain tokens start n hit) follows
      (plain-end state.span state.position state.text hit is.ignores e)
  ignored_from novar state end (Take from to ∷ later) hit is follows within e =
      let here = follows.0 in
      let forward = Follows-forward to end later follows.2 in
      ignored_from novar (after_take Ignore tokens state from to) end later hit (record {
        later = omega (arith, is.later, follows.1);
        ignores =
            ignoring-span state.span state.text from to (omega (arith, is.later, here))
            (omega (arith, follows.1, here)) (omega (arith, forward, within))
            (subst (λ p. Ignores state.span p state.text) (sym here) is.ignores);
      }) follows.2 within e
  ignored_from novar state end (Put text ∷ later) hit is follows within e =
      ignored_from novar state end later hit is follows within e
  ignored_from novar state end (Value text ∷ later) hit is follows within e =
      ignored_from novar state end later hit is follows within e
  ignored_from novar state end (Begin text ∷ later) hit is follows within e =
      ignored_from novar (after_begin state (named_by text)) end later hit
      (ignoring-begin state (named_by text) is)
      (subst (λ p. Follows p end later) (sym (stays-begin state (named_by text))) follows) within e
  ignored_from novar state end (End text ∷ later) hit is follows within e =
      ignored_from novar (after_end tokens state (named_by text)) end later hit
      (ignoring-end state (named_by text) is)
      (subst (λ p. Follows p end later) (sym (stays-end tokens state (named_by text))) follows)
      within e
  ignored_from novar state end (Cut ∷ later) hit is follows within e =
      ignored_from novar (after_cut state) end later hit
      (record { later = is.later; ignores = refl }) follows within e

-- where outputs are ignored, a hit is the last ones of the tokens taken, from one that is no space
pub ignored_text : (tokens : List Token) (novar : NoVar) (start end : ℕ) (events : List Event)
    (hit : Hit) → Follows start end events → end ≤ length tokens →
    render tokens Ignore novar start events ≡ Some hit → IsPlain tokens start end hit
ignored_text tokens novar start end events hit follows within e =
    ignored_from tokens start novar (state_at start) end events hit
    (record { later = omega arith; ignores = refl }) follows within e
