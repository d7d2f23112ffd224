-- The command line's options as clap's library sees them: one command with a rule for each option
-- and one for the names of files. Inner: the crate's own functions alone speak of it.
use Rattle.std.specs.Prelude.{ℕ, ◌||◌, Bool, true, false, List, [], codes, Option, Some, None, option_map, option_and_then, unwrap_or, if◌then◌else◌, fold, slice_get}
use Rattle.std.specs.List.{list_all}
use Rattle.std.specs.Option.{option_map_or}
use Rattle.std.specs.Str.{bytes_eq}
use Rattle.clap.specs.declared.builder.action.ArgAction.{ArgAction}
use Rattle.clap.specs.declared.builder.action.ArgAction.TheVariants.{Set, Append, SetTrue}
use Rattle.clap.specs.declared.builder.value_parser.ValueParser.TheVariants as parser
use Rattle.clap.specs.declared.parser.matches.ArgMatches.{ArgMatches}
use Rattle.clap.specs.Words.{Row, Rule, all_of, found_of, rows_of}
use Rattle.clap.specs.Simple.{App, new_app, new_rule, on_top, with_rule}
use Rattle.ux_command_line.specs.declared.command.Command.{Command}
use Rattle.ux_command_line.specs.declared.command.OptionName.{OptionName}
use Rattle.ux_command_line.specs.declared.options.Options.{Options}
use Rattle.ux_command_line.specs.Tables.{ALL_OPTIONS, name_of, is_flag, has_value}
use Rattle.ux_command_line.specs.Arguments.{given_of}
use Rattle.ux_command_line.specs.Requests.{Values, values_of}

-- under which the names of files are found
abbrev pub FILES : List ℕ
FILES = codes "files"

-- an option takes a value, or is a flag
abbrev pub action_for : OptionName → ArgAction
action_for option = if is_flag option then SetTrue else Set

abbrev pub option_rule : OptionName → Rule
option_rule option = record (new_rule (name_of option)) {
  long = Some (name_of option);
  action = Some (action_for option);
}

-- names of files, none of which is empty
abbrev pub files_rule : Rule
files_rule = record (new_rule FILES) {
  action = Some Append;
  parser = Some parser.NonEmptyString;
}

-- the command of no options and no names
abbrev pub BARE : App
BARE = on_top (λ s. record s { no_binary_name = true; disable_help_flag = true })
    (new_app (codes "unitex"))

-- the command with these options, and names of files
abbrev pub app_with : List OptionName → App
app_with options = with_rule (fold (λ app option. with_rule app (option_rule option)) BARE options)
    files_rule

-- WHAT IS FOUND

-- the values that clap found under each id
abbrev pub Found : Type 0
Found = List ℕ → Option (List (List ℕ))

abbrev pub found_in : List Row → Found
found_in rows id = all_of id rows

abbrev pub matched : ArgMatches → Found
matched matches = found_in (rows_of (found_of matches))

abbrev pub first_in : List ℕ → Found → Option (List ℕ)
first_in id found = option_and_then (λ values. slice_get values 0) (found id)

abbrev pub first_value : OptionName → Found → Option (List ℕ)
first_value option found = first_in (name_of option) found

-- clap finds `true` for a flag that is given
abbrev pub is_set : Option (List ℕ) → Bool
is_set first = option_map_or (λ value. bytes_eq value (codes "true")) first false

abbrev pub value_by : (flag : Bool) → Option (List ℕ) → Option (List ℕ)
value_by true first = if is_set first then Some [] else None
value_by false first = first

-- the value that each option has, which is empty for a flag
abbrev pub values_found : Found → Values
values_found found option = value_by (is_flag option) (first_value option found)

abbrev pub values_with : Options → Values
values_with options = values_found (matched options.matches)

-- the option is a flag, isn't given, or has a value of its own
abbrev pub is_right : Found → OptionName → Bool
is_right found option =
    is_flag option || option_map_or (has_value option) (first_value option found) true

-- the values of options that are found, if each is one of its option's
abbrev pub values_in : Found → Option Values
values_in found = if list_all (is_right found) ALL_OPTIONS then Some (values_found found) else None

abbrev pub files_in : Found → List (List ℕ)
files_in found = unwrap_or (found FILES) []

-- the values of options and the names of files that are found
abbrev pub read_in : Found → Option (Values × List (List ℕ))
read_in found = option_map (λ values. (values, files_in found)) (values_in found)

-- the values of options and the names of files that the words after a command give
abbrev pub read_by : Command → List (List ℕ) → Option (Values × List (List ℕ))
read_by command words = option_and_then
    (λ given. option_map (λ values. (values, given.files)) (values_of given.settings))
    (given_of command words)
