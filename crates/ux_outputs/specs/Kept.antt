-- How the code keeps what is rendered: texts by where they stand. Inner: the crate's own functions
-- alone speak of it.
use Rattle.std.specs.Prelude.{◌≡◌, ℕ, ◌<◌, ◌≤◌, false, List, ◌++◌, None, IfSome, option_map, unwrap_or, length, take, drop, slice_range, string_bytes}
use Rattle.std.specs.Borrow.{Bor}
use Rattle.std.specs.HashMap.{HashMap, get_by}
use Rattle.std.specs.Str.{IsUtf8, bytes_eq}
use Rattle.ux_base.specs.declared.settings.Mode.{Mode}
use Rattle.ux_tokens.specs.Tokens.{Token}
use Rattle.ux_outputs.specs.declared.known.Known.{Known}
use Rattle.ux_outputs.specs.declared.known.Place.{Place}
use Rattle.ux_outputs.specs.declared.known.Place.TheVariants.{Tokens, Collected}
use Rattle.ux_outputs.specs.declared.rendering.Rendering.{Rendering}
use Rattle.ux_outputs.specs.declared.span.Span.{Span}
use Rattle.ux_outputs.specs.Variables.{Variable}
use Rattle.ux_outputs.specs.Rendering.{State, text_between, text_taken}

-- nothing is known of a variable
abbrev pub NOTHING_KNOWN : Known
NOTHING_KNOWN = record { noted = None; opened = None; value = None }

-- what a table knows of the variable of a name
abbrev pub known_in : {S : Type 0} → HashMap (Bor (List ℕ)) Known S → List ℕ → Known
known_in table name = unwrap_or (get_by (λ key. bytes_eq name key.now) table) NOTHING_KNOWN

-- the text of a place, in the text or among what was collected
abbrev pub text_at : List Token → List ℕ → Place → List ℕ
text_at tokens collected (Tokens from to) = text_between tokens from to
text_at tokens collected (Collected from to) = slice_range collected from to

-- the variable of which this is known
abbrev pub variable_of : List Token → List ℕ → Known → Variable
variable_of tokens collected known = record {
  noted = known.noted;
  collected = option_map (λ start. drop start collected) known.opened;
  value = option_map (text_at tokens collected) known.value;
}

-- the state that a rendering keeps: its text goes on with the tokens that aren't written yet
abbrev pub state_of : Mode → List Token → Rendering → State
state_of mode tokens rendering = record {
  position = rendering.position;
  text = string_bytes rendering.written
      ++ text_taken mode tokens rendering.unwritten rendering.position;
  span = rendering.span;
  variables = λ name.
      variable_of tokens (string_bytes rendering.collected) (known_in rendering.table name);
}

-- a text may be cut at the place: what stands before it is text
pub record IsCut (collected : List ℕ) (place : ℕ) : Type 0 where
  pub within : place ≤ length collected
  pub utf8 : IsUtf8 (take place collected)

-- the place lies in the text, or among what was collected
abbrev pub IsPlace : List Token → List ℕ → Place → Type 0
IsPlace tokens collected (Tokens from to) = to ≤ length tokens
IsPlace tokens collected (Collected from to) =
    (from ≤ to) × IsCut collected from × IsCut collected to

-- what is known of a variable lies in the text, or among what was collected
pub record IsKnown (tokens : List Token) (collected : List ℕ) (known : Known) : Type 0 where
  pub opened : IfSome known.opened (IsCut collected)
  pub value : IfSome known.value (IsPlace tokens collected)

-- the tokens of the span are tokens of the text
pub record IsSpanWithin (tokens : List Token) (span : Span) : Type 0 where
  pub first : span.first < length tokens
  pub last : span.last < length tokens

-- A rendering lies within the text. As long as it is fresh no token waits to be written, and as long
-- as nothing is collected no output is open.
pub record IsKept (tokens : List Token) (rendering : Rendering) : Type 0 where
  pub within : rendering.position ≤ length tokens
  pub waiting : rendering.unwritten ≤ rendering.position
  pub fresh : rendering.span ≡ None → rendering.unwritten ≡ rendering.position
  pub span : IfSome rendering.span (IsSpanWithin tokens)
  pub known : (name : List ℕ) →
      IsKnown tokens (string_bytes rendering.collected) (known_in rendering.table name)
  pub closed : rendering.collects ≡ false → (name : List ℕ) →
      (known_in rendering.table name).opened ≡ None

-- the tokens that waited are written, and all else stays
pub record IsWritten (mode : Mode) (tokens : List Token) (old new : Rendering) : Type 0 where
  pub bytes : string_bytes new.written
      ≡ string_bytes old.written ++ text_taken mode tokens old.unwritten old.position
  pub rest : new ≡ record old { written = new.written; unwritten = old.position }
