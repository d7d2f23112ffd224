-- What an output asks, as the code tells it. Inner: the crate's own functions alone speak of it.
use Rattle.std.specs.Prelude.{ℕ, List}
use Rattle.ux_outputs.specs.Variables.{Asked, value_of, is_set, is_unset}
use Rattle.ux_folds.specs.declared.names.Question.{Question}
use Rattle.ux_folds.specs.declared.names.Question.TheVariants.{Value, IsSet, IsUnset}

abbrev pub asked_as : Question → Asked
asked_as (Value name) = value_of name.now
asked_as (IsSet name) = is_set name.now
asked_as (IsUnset name) = is_unset name.now

-- the name of which an output asks
abbrev pub asked_name : Asked → List ℕ
asked_name (value_of name) = name
asked_name (is_set name) = name
asked_name (is_unset name) = name
