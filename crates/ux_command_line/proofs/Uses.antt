-- What the words use, a name, an option or a flag one after the other, and what clap makes of it.
use Rattle.std.proofs.Common.{Bool, true, false, List, [], ◌∷◌, ◌++◌, map, Option, Some, None, option_map, if◌then◌else◌, find, bytes_eq}
use Rattle.clap.specs.Lexer.{long_of, short_of}
use Rattle.clap.specs.Kinds.{Kinds}
use Rattle.clap.specs.Faults.{use_fault}
use Rattle.clap.specs.Walk.{Row, Rule, Text, used}
use Rattle.clap.specs.Simple.{filled, new_rule, with_index}
use Rattle.clap.specs.declared.builder.action.ArgAction.TheVariants.{Set, SetTrue}
use Rattle.ux_command_line.specs.declared.command.OptionName.{OptionName}
use Rattle.ux_command_line.specs.Matching.{files_rule}
use Rattle.ux_command_line.specs.Tables.{name_of, is_flag}

-- RULES AS BUILT

-- the rule of an option of this name, which is a flag or takes a value
abbrev pub built_as : (flag : Bool) → (name : Text) → Rule
built_as flag name = filled (record (new_rule name) {
  long = Some name;
  action = Some (if flag then SetTrue else Set);
})

abbrev pub built_option : OptionName → Rule
built_option option = built_as (is_flag option) (name_of option)

abbrev pub built_files : Rule
built_files = with_index 1 (filled files_rule)

abbrev pub rules_with : List OptionName → List Rule
rules_with options = map built_option options ++ built_files ∷ []

-- the first of the options with this name
abbrev pub option_with : List OptionName → Text → Option OptionName
option_with options name = find (λ o. bytes_eq (name_of o) name) options

-- USES

pub data Use : Type 0 where
  named : Text → Use
  flagged : OptionName → Use
  valued : OptionName → Text → Use

abbrev pub rule_used : Use → Rule
rule_used (named text) = built_files
rule_used (flagged option) = built_option option
rule_used (valued option value) = built_option option

abbrev pub values_used : Use → List Text
values_used (named text) = text ∷ []
values_used (flagged option) = []
values_used (valued option value) = value ∷ []

abbrev pub is_none : Kinds → Bool
is_none [] = true
is_none (kind ∷ kinds) = false

-- clap takes the use, after those that gave these rows
abbrev pub is_taken : List Row → Use → Bool
is_taken rows here = is_none (use_fault false (rule_used here) (values_used here) rows)

abbrev pub rows_with : List Row → Use → List Row
rows_with rows here = used (rule_used here) (values_used here) rows

-- the rows after these uses, if clap takes each of them
abbrev pub rows_past : List Row → List Use → Option (List Row)
rows_past rows [] = Some rows
rows_past rows (here ∷ uses) =
    if is_taken rows here then rows_past (rows_with rows here) uses else None

-- THE USES OF WORDS

-- how the next word is read: by what it is, as the value of an option, or as a name
pub data Reading : Type 0 where
  anew : Reading
  awaits : OptionName → Reading
  behind : Reading

abbrev pub in_front : Use → Option (List Use) → Option (List Use)
in_front here = option_map (λ uses. here ∷ uses)

abbrev pub uses_by_kind : Bool → OptionName → Option Text → (Reading → Option (List Use)) →
    Option (List Use)
uses_by_kind true option (Some value) later = None
uses_by_kind true option None later = in_front (flagged option) (later anew)
uses_by_kind false option (Some value) later = in_front (valued option value) (later anew)
uses_by_kind false option None later = later (awaits option)

abbrev pub uses_by_option : Option OptionName → Option Text → (Reading → Option (List Use)) →
    Option (List Use)
uses_by_option None value later = None
uses_by_option (Some option) value later = uses_by_kind (is_flag option) option value later

-- `-x` is no use; what is neither `--name` nor `-x` is one as it stands
abbrev pub uses_unless_short : Option Text → Option (List Use) → Option (List Use)
uses_unless_short (Some flags) plain = None
uses_unless_short None plain = plain

abbrev pub uses_by_form : List OptionName → Text → Option (Text × Option Text) →
    (Reading → Option (List Use)) → Option (List Use)
uses_by_form options text (Some long) later =
    uses_by_option (option_with options long.0) long.1 later
uses_by_form options text None later =
    uses_unless_short (short_of text) (in_front (named text) (later anew))

abbrev pub uses_by_word : List OptionName → Text → (Reading → Option (List Use)) →
    Option (List Use)
uses_by_word options text later = if bytes_eq text (45 ∷ 45 ∷ []) then later behind
    else uses_by_form options text (long_of text) later

-- a value is no option and not `--`
abbrev pub uses_by_value : OptionName → Text → Option (Text × Option Text) → Option (List Use) →
    Option (List Use)
uses_by_value option text (Some long) later = None
uses_by_value option text None later =
    uses_unless_short (short_of text) (in_front (valued option text) later)

abbrev pub uses_of : List OptionName → Reading → List Text → Option (List Use)
uses_of options (awaits option) [] = None
uses_of options anew [] = Some []
uses_of options behind [] = Some []
uses_of options anew (text ∷ words) =
    uses_by_word options text (λ reading. uses_of options reading words)
uses_of options (awaits option) (text ∷ words) = if bytes_eq text (45 ∷ 45 ∷ []) then None
    else uses_by_value option text (long_of text) (uses_of options anew words)
uses_of options behind (text ∷ words) = in_front (named text) (uses_of options behind words)
