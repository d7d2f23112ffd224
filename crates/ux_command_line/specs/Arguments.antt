-- How the words after a command are read. Public, through `Requests` and `Writing`.
use Rattle.std.specs.Prelude.{ℕ, ◌||◌, ◌==◌, Bool, false, not, List, [], ◌∷◌, length, codes, if◌then◌else◌, Option, Some, None, option_map, option_and_then}
use Rattle.std.specs.List.{list_any, before_first, after_first}
use Rattle.std.specs.Option.{option_map_or}
use Rattle.std.specs.Str.{bytes_eq}
use Rattle.ux_command_line.specs.declared.command.Command.{Command}
use Rattle.ux_command_line.specs.declared.command.OptionName.{OptionName}
use Rattle.ux_command_line.specs.Settings.{Setting, setting_of, flag_of}
use Rattle.ux_command_line.specs.Words.{Word}
use Rattle.ux_command_line.specs.Words as word
use Rattle.ux_command_line.specs.Tables.{option_named}

abbrev pub HYPHEN : ℕ
HYPHEN = 45

abbrev pub EQUALS : ℕ
EQUALS = 61

-- ONE WORD

abbrev pub is_empty : List ℕ → Bool
is_empty text = length text == 0

-- the word names a file: it isn't empty, and begins with a hyphen only where it is `-` alone
abbrev pub is_name : List ℕ → Bool
is_name [] = false
is_name (first ∷ rest) = not (first == HYPHEN) || is_empty rest

-- what stands before the first `=`
abbrev pub name_in : List ℕ → List ℕ
name_in text = before_first (λ b. b == EQUALS) text

-- what stands after it, if there is one
abbrev pub value_in : List ℕ → Option (List ℕ)
value_in text =
    if list_any (λ b. b == EQUALS) text then Some (after_first (λ b. b == EQUALS) text) else None

-- an option alone is a flag, or its value is the next word; with a value it is set to that value
abbrev pub said_of : OptionName → Option (List ℕ) → Word
said_of option (Some value) = option_map_or word.Setting (setting_of option value) word.Unknown
said_of option None = option_map_or word.Setting (flag_of option) (word.AwaitsValue option)

abbrev pub said_by : Command → List ℕ → Option (List ℕ) → Word
said_by command name value =
    option_map_or (λ option. said_of option value) (option_named command name) word.Unknown

-- what a word is that stands before `--`
abbrev pub word_of : Command → List ℕ → Word
word_of command text =
    if bytes_eq text (codes "--") then word.OptionsEnd
    else if is_name text then word.FileName
    else said_by command (name_in text) (value_in text)

-- ALL WORDS

-- what the words say, in their order
pub record Given : Type 0 where
  pub settings : List Setting
  pub files : List (List ℕ)

abbrev pub NOTHING : Given
NOTHING = record { settings = []; files = [] }

-- a name, and then these
abbrev pub with_name : List ℕ → Given → Given
with_name name given = record given { files = name ∷ given.files }

-- a setting, and then these
abbrev pub with_setting : Setting → Given → Given
with_setting setting given = record given { settings = setting ∷ given.settings }

-- after `--` all words are names, and none is empty
abbrev pub names_of : List (List ℕ) → Option Given
names_of words =
    if list_any is_empty words then None else Some (record { settings = []; files = words })

-- an option with the next word as its value, and then what follows
abbrev pub with_value : OptionName → List ℕ → Option Given → Option Given
with_value option value later =
    option_and_then (λ setting. option_map (with_setting setting) later) (setting_of option value)

-- what a word says with those after it: by itself, before what they say, or with the first of
-- them as its value
abbrev pub said_with : Word → (text : List ℕ) → (after : List (List ℕ)) → (later : Option Given)
    → (valued : OptionName → Option Given) → Option Given
said_with word.OptionsEnd text after later valued = names_of after
said_with word.FileName text after later valued = option_map (with_name text) later
said_with (word.Setting setting) text after later valued = option_map (with_setting setting) later
said_with (word.AwaitsValue option) text after later valued = valued option
said_with word.Unknown text after later valued = None

-- what the words after the command say, if they can be read
abbrev pub given_of : Command → List (List ℕ) → Option Given
given_of command [] = Some NOTHING
given_of command (text ∷ []) =
    said_with (word_of command text) text [] (Some NOTHING) (λ option. None)
given_of command (text ∷ value ∷ rest) =
    said_with (word_of command text) text (value ∷ rest) (given_of command (value ∷ rest))
    (λ option. with_value option value (given_of command rest))
