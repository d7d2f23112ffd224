-- Which request the words are. Public: the crate's public contracts speak of it.
use Rattle.std.specs.Prelude.{ℕ, ◌&&◌, ◌==◌, Bool, not, List, [], ◌∷◌, length, codes, nat_eq, nat_le, slice_get, if◌then◌else◌, Option, Some, None, option_map, option_and_then, unwrap_or, filter_map, is_some}
use Rattle.std.specs.List.{ends_with, list_all}
use Rattle.std.specs.Str.{bytes_eq}
use Rattle.ux_base.specs.declared.settings.Mode.TheVariants.{Ignore}
use Rattle.ux_base.specs.declared.settings.Policy.TheVariants.{All}
use Rattle.ux_base.specs.declared.settings.NoVar.TheVariants.{Nothing, Drop}
use Rattle.ux_base.specs.declared.settings.Sort.TheVariants.{TO}
use Rattle.ux_command_line.specs.declared.command.Command.{Command}
use Rattle.ux_command_line.specs.declared.command.Command.TheVariants.{Locate, Concord, Tokenize, Check, Dico, Fst2, Inflect, Compress, Tfst, Elag, Bench, Cascade, Flatten, Tfind, Morpho}
use Rattle.ux_command_line.specs.declared.command.OptionName.{OptionName}
use Rattle.ux_command_line.specs.declared.command.OptionName.TheVariants as option
use Rattle.ux_command_line.specs.Settings.{Setting}
use Rattle.ux_command_line.specs.Steps.{are_steps, steps_in, dics_in}
use Rattle.ux_command_line.specs.declared.request.Request.{Request}
use Rattle.ux_command_line.specs.declared.request.Request.TheVariants as request
use Rattle.ux_command_line.specs.declared.request.Search.{Search}
use Rattle.ux_command_line.specs.Tables.{Word, ALL_OPTIONS, name_of, command_named, mode_named, policy_named, width_of, sort_named, depth_of, text_length_of}
use Rattle.ux_command_line.specs.Arguments.{Given, given_of}

-- SETTINGS

-- the value that each option has, and none of an option that isn't given
abbrev pub Values : Type 0
Values = OptionName → Option Word

-- the value, where it is this option that is set
abbrev pub value_for : OptionName → Setting → Option Word
value_for option setting =
    if bytes_eq (name_of setting.option) (name_of option) then Some setting.value else None

-- the values that the settings give the option, one after the other
abbrev pub values_for : List Setting → OptionName → List Word
values_for settings option = filter_map (value_for option) settings

-- no option is given twice
abbrev pub is_each_once : List Setting → Bool
is_each_once settings =
    list_all (λ option. nat_le (length (values_for settings option)) 1) ALL_OPTIONS

-- the values that the settings give, if no option is given twice
abbrev pub values_of : List Setting → Option Values
values_of settings = if is_each_once settings
    then Some (λ option. slice_get (values_for settings option) 0) else None

-- what the option is set to: the value that its own reader takes from the word, or else the default
abbrev pub chosen : {T : Type 0} → (Word → Option T) → (default : T) → Option Word → T
chosen reader default value = unwrap_or (option_and_then reader value) default

-- REQUESTS

-- a search by the names of a graph, a text, an alphabet and dictionaries
abbrev pub search_by : Values → List Word → Option Search
search_by values (graph ∷ text ∷ alphabet ∷ dics) = Some (record {
  graph = graph;
  text = text;
  alphabet = alphabet;
  dics = dics;
  mode = chosen mode_named Ignore (values option.Mode);
  policy = chosen policy_named All (values option.Policy);
  novar = if is_some (values option.NoVar) then Drop else Nothing;
  chars = is_some (values option.Chars);
})
search_by values names = None

abbrev pub concord_by : Values → Search → Request
concord_by values search = request.Concord search (chosen width_of 40 (values option.Left))
    (chosen width_of 40 (values option.Right)) (chosen sort_named TO (values option.Sort))

-- a cascade by the names of a text and an alphabet, and by steps and dictionaries, of which at least
-- one is a step
abbrev pub cascade_by : Values → List Word → Option Request
cascade_by values (text ∷ alphabet ∷ words) =
    if are_steps words && not (length (steps_in words) == 0)
    then Some (request.Cascade text alphabet (steps_in words) (dics_in words)
    (is_some (values option.Trace))) else None
cascade_by values names = None

-- the graph of a search inside words is a drawn one
abbrev pub morpho_by : List Word → Option Request
morpho_by (graph ∷ text ∷ alphabet ∷ dics) = if ends_with nat_eq graph (codes ".fst2") then None
    else Some (request.Morpho graph text alphabet dics)
morpho_by names = None

-- the request of a command with these values of options and names of files
abbrev pub request_by : Command → Values → List Word → Option Request
request_by Locate values names = option_map request.Locate (search_by values names)
request_by Concord values names = option_map (concord_by values) (search_by values names)
request_by Tokenize values (text ∷ alphabet ∷ []) =
    Some (request.Tokenize text alphabet (is_some (values option.Chars)))
request_by Check values (file ∷ []) = Some (request.Check (is_some (values option.Delas)) file)
request_by Dico values (text ∷ alphabet ∷ dics) =
    Some (request.Dico text alphabet dics (is_some (values option.Chars)))
request_by Fst2 values (graph ∷ alphabet ∷ []) =
    Some (request.Fst2 graph alphabet (is_some (values option.Chars)))
request_by Inflect values (stems ∷ []) = Some (request.Inflect stems)
request_by Compress values (dic ∷ []) = Some (request.Compress dic)
request_by Tfst values (text ∷ alphabet ∷ dics) =
    Some (request.Tfst text alphabet dics (is_some (values option.Chars)))
request_by Elag values (tfst ∷ rule ∷ rules) = Some (request.Elag tfst (rule ∷ rules))
request_by Bench values (n ∷ []) = option_map request.Bench (text_length_of n)
request_by Cascade values names = cascade_by values names
request_by Flatten values (graph ∷ alphabet ∷ []) =
    Some (request.Flatten graph alphabet (chosen depth_of 10 (values option.Depth)))
request_by Tfind values (graph ∷ tfst ∷ alphabet ∷ []) =
    Some (request.Tfind graph tfst alphabet)
request_by Morpho values names = morpho_by names
request_by command values names = None

-- the request of what is given to a command
abbrev pub request_with : Command → Given → Option Request
request_with command given =
    option_and_then (λ values. request_by command values given.files) (values_of given.settings)

-- the request of a command's name and the words after it
abbrev pub command_request : List ℕ → List (List ℕ) → Option Request
command_request name words = option_and_then
    (λ command. option_and_then (request_with command) (given_of command words))
    (command_named name)

-- the question about the program itself that the word is
abbrev pub question_of : List ℕ → Option Request
question_of word =
    if bytes_eq word (codes "--help") then Some request.Help
    else if bytes_eq word (codes "--version") then Some request.Version
    else None

-- the request of the words after the program's name: the first names the command, or is alone and
-- asks for the program itself
abbrev pub request_of : List (List ℕ) → Option Request
request_of [] = None
request_of (word ∷ []) =
    if is_some (question_of word) then question_of word else command_request word []
request_of (word ∷ next ∷ rest) = command_request word (next ∷ rest)
