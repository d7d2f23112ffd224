-- What is known of the variables of a grammar, and which of them an event names. The manual, on
-- variables. Public: the crate's public contracts speak of it.
use Rattle.std.specs.Prelude.{ℕ, ◌-◌, ◌==◌, nat_eq, List, [], ◌∷◌, ◌++◌, Option, Some, None, codes, length, take, option_map, if◌then◌else◌}
use Rattle.std.specs.List.{ends_with}
use Rattle.std.specs.Option.{option_or}
use Rattle.std.specs.Str.{bytes_eq}

-- What is known of a variable: the position that its last begin noted, what was collected since the
-- begin of an output that is still open, and its value. Inputs and outputs of one name share the value.
pub record Variable : Type 0 where
  pub noted : Option ℕ
  pub collected : Option (List ℕ)
  pub value : Option (List ℕ)

-- the variables, by name
abbrev pub Variables : Type 0
Variables = List ℕ → Variable

-- nothing is known of any variable
abbrev pub NO_VARIABLES : Variables
NO_VARIABLES name = record { noted = None; collected = None; value = None }

-- the variables, of which one has changed
abbrev pub changed_at : List ℕ → (Variable → Variable) → Variables → Variables
changed_at name change variables =
    λ other. if bytes_eq name other then change (variables other) else variables other

-- an input begins at the position, in place of an older begin
abbrev pub noted_at : ℕ → Variable → Variable
noted_at position variable = record variable { noted = Some position }

-- an output is opened, in place of an older one
abbrev pub opened : Variable → Variable
opened variable = record variable { collected = Some [] }

-- an input ends: the text from a noted position becomes the value, and the note stays
abbrev pub ended_input : (ℕ → List ℕ) → Variable → Variable
ended_input text_from variable =
    record variable { value = option_or (option_map text_from variable.noted) variable.value }

-- an output ends: what it collected becomes the value, and it is closed
abbrev pub ended_output : Variable → Variable
ended_output variable = record variable {
  collected = None;
  value = option_or variable.collected variable.value;
}

-- the variable, where a text is put out
abbrev pub collecting : List ℕ → Variable → Variable
collecting text variable = record variable {
  collected = option_map (λ collected. collected ++ text) variable.collected;
}

-- the sign by which the text begins that names an output, `|`
abbrev pub BAR : ℕ
BAR = 124

-- what the text of a `Begin` or an `End` names
pub data Named : Type 0 where
  input : List ℕ → Named
  output : List ℕ → Named

-- an output is named after a bar, and an input by the whole text
abbrev pub named_by : List ℕ → Named
named_by [] = input []
named_by (b ∷ name) = if b == BAR then output name else input (b ∷ name)

-- the ends of the two tests
abbrev pub SET : List ℕ
SET = codes ".SET"

abbrev pub UNSET : List ℕ
UNSET = codes ".UNSET"

-- what the text of a `Value` asks: a variable's value, that it has one, or that it has none
pub data Asked : Type 0 where
  value_of : List ℕ → Asked
  is_set : List ℕ → Asked
  is_unset : List ℕ → Asked

-- what stands before an end of this text
abbrev pub before_end : (end text : List ℕ) → List ℕ
before_end end text = take (length text - length end) text

-- a test asks by its end, and any other text is a name whose value is asked
abbrev pub asked_by : List ℕ → Asked
asked_by text =
    if ends_with nat_eq text SET then is_set (before_end SET text)
    else if ends_with nat_eq text UNSET then is_unset (before_end UNSET text)
    else value_of text
