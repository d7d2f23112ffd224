-- The commands, their options, and the values that options take. Public, through `Requests` and
-- `Writing`.
use Rattle.std.specs.Prelude.{ℕ, ◌&&◌, ◌++◌, Bool, true, false, List, [], ◌∷◌, length, codes, nat_lt, nat_le, if◌then◌else◌, Option, Some, None, is_some, find}
use Rattle.std.specs.List.{list_all}
use Rattle.std.specs.Str.{bytes_eq}
use Rattle.std.specs.Str.Parse.{digits_value}
use Rattle.ux_base.specs.declared.settings.Mode.{Mode}
use Rattle.ux_base.specs.declared.settings.Mode.TheVariants.{Ignore, Merge, Replace}
use Rattle.ux_base.specs.declared.settings.Policy.{Policy}
use Rattle.ux_base.specs.declared.settings.Policy.TheVariants.{Shortest, Longest, All}
use Rattle.ux_base.specs.declared.settings.Sort.{Sort}
use Rattle.ux_base.specs.declared.settings.Sort.TheVariants.{TO, LC, LR, CL, CR, RL, RC}
use Rattle.ux_command_line.specs.declared.command.Command.{Command}
use Rattle.ux_command_line.specs.declared.command.Command.TheVariants.{Locate, Concord, Tokenize, Check, Dico, Fst2, Inflect, Compress, Tfst, Elag, Bench, Cascade, Flatten, Tfind, Morpho}
use Rattle.ux_command_line.specs.declared.command.OptionName.{OptionName}
use Rattle.ux_command_line.specs.declared.command.OptionName.TheVariants as option
use Rattle.ux_command_line.specs.declared.command.Takes.{Takes}
use Rattle.ux_command_line.specs.declared.command.Takes.TheVariants as takes

abbrev pub Word : Type 0
Word = List ℕ

-- COMMANDS

-- the command of this name
abbrev pub command_named : Word → Option Command
command_named word =
    if bytes_eq word (codes "locate") then Some Locate
    else if bytes_eq word (codes "concord") then Some Concord
    else if bytes_eq word (codes "tokenize") then Some Tokenize
    else if bytes_eq word (codes "check") then Some Check
    else if bytes_eq word (codes "dico") then Some Dico
    else if bytes_eq word (codes "fst2") then Some Fst2
    else if bytes_eq word (codes "inflect") then Some Inflect
    else if bytes_eq word (codes "compress") then Some Compress
    else if bytes_eq word (codes "txt2tfst") then Some Tfst
    else if bytes_eq word (codes "elag") then Some Elag
    else if bytes_eq word (codes "bench") then Some Bench
    else if bytes_eq word (codes "cascade") then Some Cascade
    else if bytes_eq word (codes "flatten") then Some Flatten
    else if bytes_eq word (codes "tfind") then Some Tfind
    else if bytes_eq word (codes "morpho") then Some Morpho
    else None

-- OPTIONS

pub record OptionRow : Type 0 where
  pub name : Word
  pub takes : Takes

abbrev pub row : (name : Word) → Takes → OptionRow
row name takes = record { name = name; takes = takes }

-- the table: how an option is named, and which values it takes
abbrev pub row_of : OptionName → OptionRow
row_of option.Mode = row (codes "mode") takes.Mode
row_of option.Policy = row (codes "policy") takes.Policy
row_of option.NoVar = row (codes "novar") takes.Nothing
row_of option.Chars = row (codes "chars") takes.Nothing
row_of option.Left = row (codes "left") takes.Width
row_of option.Right = row (codes "right") takes.Width
row_of option.Sort = row (codes "sort") takes.Sort
row_of option.Delas = row (codes "delas") takes.Nothing
row_of option.Trace = row (codes "trace") takes.Nothing
row_of option.Depth = row (codes "depth") takes.Depth

-- every option
abbrev pub ALL_OPTIONS : List OptionName
ALL_OPTIONS = option.Mode ∷ option.Policy ∷ option.NoVar ∷ option.Chars ∷ option.Left
    ∷ option.Right ∷ option.Sort ∷ option.Delas ∷ option.Trace ∷ option.Depth ∷ []

abbrev pub LOCATE_OPTIONS : List OptionName
LOCATE_OPTIONS = option.Mode ∷ option.Policy ∷ option.NoVar ∷ option.Chars ∷ []

abbrev pub CONCORD_OPTIONS : List OptionName
CONCORD_OPTIONS = option.Left ∷ option.Right ∷ option.Sort ∷ LOCATE_OPTIONS

-- the options of a command
abbrev pub options_of : Command → List OptionName
options_of Locate = LOCATE_OPTIONS
options_of Concord = CONCORD_OPTIONS
options_of Tokenize = option.Chars ∷ []
options_of Check = option.Delas ∷ []
options_of Dico = option.Chars ∷ []
options_of Fst2 = option.Chars ∷ []
options_of Tfst = option.Chars ∷ []
options_of Cascade = option.Trace ∷ []
options_of Flatten = option.Depth ∷ []
options_of _ = []

abbrev pub name_of : OptionName → Word
name_of option = (row_of option).name

abbrev pub takes_of : OptionName → Takes
takes_of option = (row_of option).takes

-- how an option is written
abbrev pub word_of_option : OptionName → Word
word_of_option option = codes "--" ++ name_of option

abbrev pub is_nothing : Takes → Bool
is_nothing takes.Nothing = true
is_nothing _ = false

-- the option is a flag, which takes no value
abbrev pub is_flag : OptionName → Bool
is_flag option = is_nothing (takes_of option)

-- the one of these options that is written so
abbrev pub option_among : List OptionName → Word → Option OptionName
option_among options word = find (λ o. bytes_eq word (word_of_option o)) options

-- the option of the command that is written so
abbrev pub option_named : Command → Word → Option OptionName
option_named command word = option_among (options_of command) word

-- VALUES

abbrev pub is_digit : ℕ → Bool
is_digit b = nat_le 48 b && nat_le b 57

-- the number from `least` to `most` that one to so many decimal digits write
abbrev pub number_of : (digits least most : ℕ) → Word → Option ℕ
number_of digits least most word =
    if nat_lt 0 (length word) && (nat_le (length word) digits && (list_all is_digit word
    && (nat_le least (digits_value 10 word) && nat_le (digits_value 10 word) most)))
    then Some (digits_value 10 word) else None

-- the characters beside a hit: one to four digits, at most 1000
abbrev pub width_of : Word → Option ℕ
width_of = number_of 4 0 1000

-- how deep calls are written out: one to three digits, at most 100
abbrev pub depth_of : Word → Option ℕ
depth_of = number_of 3 0 100

-- the length of a text that is made up: one to six digits, from 1 to 200,000
abbrev pub text_length_of : Word → Option ℕ
text_length_of = number_of 6 1 200000

abbrev pub mode_named : Word → Option Mode
mode_named word =
    if bytes_eq word (codes "ignore") then Some Ignore
    else if bytes_eq word (codes "merge") then Some Merge
    else if bytes_eq word (codes "replace") then Some Replace
    else None

abbrev pub policy_named : Word → Option Policy
policy_named word =
    if bytes_eq word (codes "shortest") then Some Shortest
    else if bytes_eq word (codes "longest") then Some Longest
    else if bytes_eq word (codes "all") then Some All
    else None

abbrev pub sort_named : Word → Option Sort
sort_named word =
    if bytes_eq word (codes "TO") then Some TO
    else if bytes_eq word (codes "LC") then Some LC
    else if bytes_eq word (codes "LR") then Some LR
    else if bytes_eq word (codes "CL") then Some CL
    else if bytes_eq word (codes "CR") then Some CR
    else if bytes_eq word (codes "RL") then Some RL
    else if bytes_eq word (codes "RC") then Some RC
    else None

-- the value is one of these
abbrev pub accepts : Takes → Word → Bool
accepts takes.Nothing value = false
accepts takes.Mode value = is_some (mode_named value)
accepts takes.Policy value = is_some (policy_named value)
accepts takes.Width value = is_some (width_of value)
accepts takes.Sort value = is_some (sort_named value)
accepts takes.Depth value = is_some (depth_of value)

-- the value is one of the option's own
abbrev pub has_value : OptionName → Word → Bool
has_value option value = accepts (takes_of option) value
