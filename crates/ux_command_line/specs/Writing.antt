-- How requests are written as words. Public: the crate's public contracts speak of it.
use Rattle.std.specs.Prelude.{◌≡◌, ℕ, true, false, List, [], ◌∷◌, ◌++◌, codes, Some}
use Rattle.std.specs.List.{Contains, list_any}
use Rattle.ux_command_line.specs.declared.command.Command.{Command}
use Rattle.ux_command_line.specs.declared.command.OptionName.{OptionName}
use Rattle.ux_command_line.specs.declared.request.Request.{Request}
use Rattle.ux_command_line.specs.Settings.{set}
use Rattle.ux_command_line.specs.Tables.{command_named, options_of, word_of_option, is_flag, has_value}
use Rattle.ux_command_line.specs.Arguments.{EQUALS, Given, NOTHING, is_empty, is_name, with_name, with_setting}
use Rattle.ux_command_line.specs.Requests.{question_of, request_with}

-- the option is one of the command's
abbrev pub Has : Command → OptionName → Type 0
Has command option = Contains (options_of command) option

module _ (command : Command) where
  -- the words write what is given: names, flags, options with the next word as value or with the
  -- value after `=`, and at the end names after `--`
  pub data Writes : List (List ℕ) → Given → Type 0 where
    nothing : Writes [] NOTHING
    after_end : {names : List (List ℕ)} → list_any is_empty names ≡ false →
        Writes (codes "--" ∷ names) (record { settings = []; files = names })
    file : {name : List ℕ} {words : List (List ℕ)} {given : Given} → is_name name ≡ true →
        Writes words given → Writes (name ∷ words) (with_name name given)
    flag : {words : List (List ℕ)} {given : Given} (option : OptionName) →
        Has command option → is_flag option ≡ true → Writes words given →
        Writes (word_of_option option ∷ words) (with_setting (set option []) given)
    spaced : {words : List (List ℕ)} {given : Given} (option : OptionName) (value : List ℕ) →
        Has command option → has_value option value ≡ true → Writes words given →
        Writes (word_of_option option ∷ value ∷ words) (with_setting (set option value) given)
    joined : {words : List (List ℕ)} {given : Given} (option : OptionName) (value : List ℕ) →
        Has command option → has_value option value ≡ true → Writes words given →
        Writes ((word_of_option option ++ EQUALS ∷ value) ∷ words)
        (with_setting (set option value) given)

-- the words write the request: one word asks for the program itself, or the first names a command
-- and those after it write what makes the request of it
pub data IsWritten : List (List ℕ) → Request → Type 0 where
  question : {word : List ℕ} {request : Request} → question_of word ≡ Some request →
      IsWritten (word ∷ []) request
  asked : {name : List ℕ} {words : List (List ℕ)} {request : Request} (command : Command)
      (given : Given) → command_named name ≡ Some command → Writes command words given →
      request_with command given ≡ Some request → IsWritten (name ∷ words) request
