-- The hit that the events of a derivation render. The manual, on Locate and on variables. Public: the
-- crate's public contracts speak of it.
use Rattle.std.specs.Prelude.{◌≡◌, ◌≢◌, ℕ, ◌+◌, ◌-◌, Bool, true, false, nat_lt, List, [], ◌∷◌, ◌++◌, Option, Some, None, is_some, is_none, option_map, option_and_then, slice_get, slice_range, take, drop, if◌then◌else◌}
use Rattle.std.specs.List.{prefix_len}
use Rattle.ux_base.specs.declared.settings.Mode.{Mode}
use Rattle.ux_base.specs.declared.settings.Mode.TheVariants.{Ignore, Merge, Replace}
use Rattle.ux_base.specs.declared.settings.NoVar.{NoVar}
use Rattle.ux_base.specs.declared.settings.NoVar.TheVariants.{Nothing, Drop}
use Rattle.ux_tokens.specs.declared.kind.Kind.{Kind}
use Rattle.ux_tokens.specs.declared.kind.Kind.TheVariants as kind
use Rattle.ux_tokens.specs.Tokens.{Token, joined}
use Rattle.ux_outputs.specs.declared.event.Event.{Event}
use Rattle.ux_outputs.specs.declared.event.Event.TheVariants.{Take, Put, Value, Begin, End, Cut}
use Rattle.ux_outputs.specs.declared.hit.Hit.{Hit}
use Rattle.ux_outputs.specs.declared.span.Span.{Span}
use Rattle.ux_outputs.specs.Variables.{Variable, Variables, NO_VARIABLES, changed_at, noted_at, opened, ended_input, ended_output, collecting, Named, input, output, named_by, Asked, value_of, is_set, is_unset, asked_by}

-- the position after a space, where the token there is one
abbrev pub skip_past : Option Kind → ℕ → ℕ
skip_past None p = p
skip_past (Some kind.Space) p = p + 1
skip_past (Some kind.Word) p = p
skip_past (Some kind.Other) p = p
skip_past (Some kind.Sentence) p = p
skip_past (Some kind.Stop) p = p
skip_past (Some kind.Tag) p = p

-- the kind of a token, where there is one
abbrev pub kind_of : Option Token → Option Kind
kind_of None = None
kind_of (Some token) = Some token.kind

-- the position after a space that stands at p, or p
abbrev pub skip : List Token → ℕ → ℕ
skip tokens p = skip_past (kind_of (slice_get tokens p)) p

-- the text of the tokens from one position to another
abbrev pub text_between : List Token → ℕ → ℕ → List ℕ
text_between tokens p k = joined (take (k - p) (drop p tokens))

-- a token that is no space stands at the position
pub record IsNoSpaceAt (tokens : List Token) (p : ℕ) : Type 0 where
  pub token : Token
  pub at_place : slice_get tokens p ≡ Some token
  pub no_space : token.kind ≢ kind.Space

abbrev pub is_space : Kind → Bool
is_space kind.Space = true
is_space _ = false

-- the position after the spaces that begin the tokens from one position to another
abbrev pub past_spaces : List Token → (from to : ℕ) → ℕ
past_spaces tokens from to =
    from + prefix_len (λ token. is_space token.kind) (slice_range tokens from to)

-- What is rendered so far: the position, the text, the first and the last token, and the variables. As
-- long as no token but a space was taken there is no first token, and the rendering is fresh.
pub record State : Type 0 where
  pub position : ℕ
  pub text : List ℕ
  pub span : Option Span
  pub variables : Variables

-- nothing is rendered yet
abbrev pub state_at : ℕ → State
state_at start = record { position = start; text = []; span = None; variables = NO_VARIABLES }

-- Where the tokens begin that are taken and not left out. While a rendering is fresh, spaces in front
-- are left out. (Two spaces never stand side by side in a text, so that is one space at most.)
abbrev pub begin_of : List Token → Option Span → (from to : ℕ) → ℕ
begin_of tokens None from to = past_spaces tokens from to
begin_of tokens (Some span) from to = from

-- the first and the last token, once those from `begin` to `to` are taken
abbrev pub span_after : Option Span → (begin to : ℕ) → Option Span
span_after None begin to =
    if nat_lt begin to then Some (record { first = begin; last = to - 1 }) else None
span_after (Some span) begin to = Some (record span { last = to - 1 })

-- what stands in the text for tokens that are taken
abbrev pub text_taken : Mode → List Token → (begin to : ℕ) → List ℕ
text_taken Ignore tokens begin to = text_between tokens begin to
text_taken Merge tokens begin to = text_between tokens begin to
text_taken Replace tokens begin to = []

-- the tokens from one position to another are taken
abbrev pub after_take : Mode → List Token → State → (from to : ℕ) → State
after_take mode tokens state from to =
    let begin = begin_of tokens state.span from to in
    record state {
      position = to;
      text = state.text ++ text_taken mode tokens begin to;
      span = span_after state.span begin to;
    }

-- a text is put out: it stands in the text, and open outputs collect it
abbrev pub after_put : State → List ℕ → State
after_put state text = record state {
  text = state.text ++ text;
  variables = λ name. collecting text (state.variables name);
}

-- a variable's value is put out; None where the derivation is dropped for want of one
abbrev pub after_value : NoVar → State → Option (List ℕ) → Option State
after_value novar state (Some value) = Some (after_put state value)
after_value Nothing state None = Some state
after_value Drop state None = None

-- the derivation goes on where a test holds, and is dropped where not
abbrev pub after_test : State → Bool → Option State
after_test state holds = if holds then Some state else None

-- the state after an output that names a variable
abbrev pub after_asked : NoVar → State → Asked → Option State
after_asked novar state (value_of name) = after_value novar state (state.variables name).value
after_asked novar state (is_set name) = after_test state (is_some (state.variables name).value)
after_asked novar state (is_unset name) = after_test state (is_none (state.variables name).value)

-- the state, where one variable has changed
abbrev pub changing : List ℕ → (Variable → Variable) → State → State
changing name change state =
    record state { variables = changed_at name change state.variables }

-- a variable begins at the position
abbrev pub after_begin : State → Named → State
after_begin state (input name) = changing name (noted_at state.position) state
after_begin state (output name) = changing name opened state

-- A variable ends. The value of an input is the text of the tokens from its begin to the position,
-- without a space in front.
abbrev pub after_end : List Token → State → Named → State
after_end tokens state (input name) =
    changing name
    (ended_input (λ begin. text_between tokens (skip tokens begin) state.position)) state
after_end tokens state (output name) = changing name ended_output state

-- what stands to the left is left out, and variables stay
abbrev pub after_cut : State → State
after_cut state = record state { text = []; span = None }

-- The state after an event, None where the event drops the derivation. Outputs do nothing where they
-- are ignored.
abbrev pub after_event : Mode → NoVar → List Token → State → Event → Option State
after_event mode novar tokens state (Take from to) = Some (after_take mode tokens state from to)
after_event Ignore novar tokens state (Put text) = Some state
after_event mode novar tokens state (Put text) = Some (after_put state text)
after_event Ignore novar tokens state (Value text) = Some state
after_event mode novar tokens state (Value text) = after_asked novar state (asked_by text)
after_event mode novar tokens state (Begin text) = Some (after_begin state (named_by text))
after_event mode novar tokens state (End text) = Some (after_end tokens state (named_by text))
after_event mode novar tokens state Cut = Some (after_cut state)

-- what is rendered, where a token but a space was taken after the last cut
abbrev pub hit_of : State → Option Hit
hit_of state =
    option_map (λ span. record { first = span.first; last = span.last; text = state.text })
    state.span

-- the hit of a state and the events after it
abbrev pub rendered_from : Mode → NoVar → List Token → State → List Event → Option Hit
rendered_from mode novar tokens state [] = hit_of state
rendered_from mode novar tokens state (event ∷ events) =
    option_and_then (λ next. rendered_from mode novar tokens next events)
    (after_event mode novar tokens state event)

-- the hit of the events of a derivation from the start, None where there is none
abbrev pub render : List Token → Mode → NoVar → ℕ → List Event → Option Hit
render tokens mode novar start events =
    rendered_from mode novar tokens (state_at start) events
