-- What clap makes of a command with these options: its rules as built, when it fails, and what it
-- finds.
use Rattle.std.proofs.Common.{◌≡◌, ◌∙◌, refl, sym, ap, Bool, true, false, not, ◌&&◌, ◌||◌, List, [], ◌∷◌, ◌++◌, map, fold, append_assoc, append-nil, Option, Some, None, is_some, option_map, option_and_then, slice_get, ℕ, count_by, codes, if◌then◌else◌}
use Rattle.std.specs.List.{list_all, list_any}
use Rattle.std.specs.Option.{option_map_or}
use Rattle.clap.specs.Kinds.{Kinds, or_else}
use Rattle.clap.specs.Faults.{default_fault, defaults_fault, settle_fault, turn_fault, walk_fault, is_simple_and_free}
use Rattle.clap.specs.Takes.{is_given}
use Rattle.clap.specs.Walk.{Row, Rule, Text, Walk, has_row, is_early_multiple, settled, walked, with_default, with_values}
use Rattle.clap.specs.declared.builder.value_parser.Reading.TheVariants.{AsWritten}
use Rattle.clap.specs.declared.parser.matches.ValueSource.TheVariants.{DefaultValue}
use Rattle.clap.specs.Simple.{App, built, filled_from, with_rule, on_top, is_simple}
use Rattle.ux_command_line.specs.declared.command.OptionName.{OptionName}
use Rattle.ux_command_line.specs.Matching.{option_rule, files_rule, BARE, FILES, app_with, Found, found_in, files_in, is_right, read_in, values_found}
use Rattle.ux_command_line.specs.Requests.{Values}
use Rattle.ux_command_line.specs.Tables.{ALL_OPTIONS, name_of, is_flag, has_value}
use Rattle.ux_command_line.proofs.BoolLemmas.{not_some}
use Rattle.ux_command_line.proofs.Uses.{built_as, built_option, rules_with, is_none}
use Rattle.ux_command_line.proofs.RowLemmas.{put, has_row-found, found-used}
use Rattle.ux_command_line.proofs.TableLemmas.{not_files}
use Rattle.ux_command_line.proofs.OptionLemmas.{same_after, told}
use Rattle.ux_command_line.proofs.Walks.{shape_with, rows_at_end}

-- AS BUILT

abbrev pub with_rules : List Rule → App → App
with_rules rules app = on_top (λ s. record s { rules = rules }) app

pub rules_more : (options : List OptionName) (app : App) →
    fold (λ app option. with_rule app (option_rule option)) app options
    ≡ with_rules (app.top.rules ++ map option_rule options) app
rules_more [] app = ap (λ rules. with_rules rules app) (sym (append-nil app.top.rules))
rules_more (option ∷ options) app = rules_more options (with_rule app (option_rule option))
    ∙ ap (λ rules. with_rules rules app)
    (append_assoc app.top.rules (option_rule option ∷ []) (map option_rule options))

built_from : (options : List OptionName) →
    filled_from 1 (map option_rule options ++ files_rule ∷ []) ≡ rules_with options
built_from [] = refl
built_from (option ∷ options) = ap (λ rules. built_option option ∷ rules) (built_from options)

-- the command as it is built
pub app_built : (options : List OptionName) →
    built (app_with options) ≡ record { top = shape_with options; subs = [] }
app_built options = rw (rules_more options BARE) (rw (built_from options) refl)

-- SIMPLE

simple_options : (options : List OptionName) →
    list_all (λ (a : Rule). a.is_simple) (map option_rule options ++ files_rule ∷ []) ≡ true
simple_options [] = refl
simple_options (option ∷ options) = simple_options options

simple_rules : (options : List OptionName) →
    list_all (λ (a : Rule). a.is_simple) (rules_with options) ≡ true
simple_rules [] = refl
simple_rules (option ∷ options) = simple_rules options

free_rules : (options : List OptionName) →
    list_all (λ (a : Rule). a.is_free) (rules_with options) ≡ true
free_rules [] = refl
free_rules (option ∷ options) = free_rules options

one_positional : (options : List OptionName) →
    count_by (λ (a : Rule). is_some a.index) (rules_with options) ≡ 1
one_positional [] = refl
one_positional (option ∷ options) = one_positional options

in_order : (options : List OptionName) →
    list_any (is_early_multiple 1) (rules_with options) ≡ false
in_order [] = refl
in_order (option ∷ options) = in_order options

pub app_simple : (options : List OptionName) → is_simple (app_with options) ≡ true
app_simple options = rw (app_built options, rules_more options BARE, simple_options options)
    (rw (simple_rules options, one_positional options) (rw (in_order options) refl))

pub app_simple_and_free : (options : List OptionName) →
    is_simple_and_free (app_with options) ≡ true
app_simple_and_free options = rw (app_simple options, app_built options, free_rules options) refl

-- AT THE END

pub none_required : (options : List OptionName) (rows : List Row) →
    list_any (λ (a : Rule). a.required && not (is_given a.id rows)) (rules_with options) ≡ false
none_required [] rows = refl
none_required (option ∷ options) rows = none_required options rows

-- DEFAULTS

never_checked : (given : Bool) (kinds : Kinds) → (if given || true then [] else kinds) ≡ []
never_checked true kinds = refl
never_checked false kinds = refl

fine_default : (given : Bool) → ◌≡◌ {A = Kinds} (if given || false then [] else []) []
fine_default true = refl
fine_default false = refl

default_passes : (option : OptionName) (rows : List Row) →
    default_fault rows (built_option option) ≡ []
default_passes option rows = by_case (is_flag option)
  where
    by_case : (flag : Bool) → default_fault rows (built_as flag (name_of option)) ≡ []
    by_case true = fine_default (has_row (name_of option) rows)
    by_case false = never_checked (has_row (name_of option) rows) _

pub defaults_pass : (options : List OptionName) (rows : List Row) →
    defaults_fault rows (rules_with options) ≡ []
unfolding defaults_fault
defaults_pass [] rows = rw (never_checked (has_row FILES rows) _) refl
defaults_pass (option ∷ options) rows = rw (default_passes option rows)
    (defaults_pass options (with_default rows (built_option option)))

either_way : {T : Type 0} (b : Bool) (x : T) → (if b then x else x) ≡ x
either_way true x = refl
either_way false x = refl

abbrev read_by_parts : (rights : OptionName → Bool) → Values → (files : List (List ℕ)) →
    Option (Values × List (List ℕ))
read_by_parts rights values files = option_map (λ v. (v, files))
    (if list_all rights ALL_OPTIONS then Some values else None)

-- what is right of the values that are found under an option's name
abbrev rightly : OptionName → Option (List (List ℕ)) → Bool
rightly option values = is_flag option || option_map_or (has_value option)
    (option_and_then (λ v. slice_get v 0) values) true

-- the default of a flag changes nothing of what is read
not_set : (option : OptionName) → is_flag option ≡ true → (found : Found) →
    found (name_of option) ≡ None →
    read_in (put (name_of option) (codes "false" ∷ []) found) ≡ read_in found
not_set option flag found none =
    let after : Found = put (name_of option) (codes "false" ∷ []) found in
    let rights : is_right after ≡ is_right found =
    λ i other. same_after found option none rightly (codes "false" ∷ [])
    (rw flag refl) other i in
    let values : values_found after ≡ values_found found =
    λ i other. same_after found option none told (codes "false" ∷ []) (rw flag refl) other i in
    let files : files_in after ≡ files_in found = rw (not_files option) refl in
    ap (λ r. read_by_parts r (values_found after) (files_in after)) rights
    ∙ (ap (λ v. read_by_parts (is_right found) v (files_in after)) values
    ∙ ap (read_by_parts (is_right found) (values_found found)) files)

flag_default : (id : Text) (rows : List Row) → ((found : Found) → found id ≡ None →
    read_in (put id (codes "false" ∷ []) found) ≡ read_in found) → (given : Bool) →
    has_row id rows ≡ given →
    read_in (found_in (if given then rows
    else with_values id AsWritten DefaultValue (codes "false" ∷ []) rows)) ≡ read_in (found_in rows)
flag_default id rows alike true e = refl
flag_default id rows alike false e =
    ap read_in (found-used id AsWritten DefaultValue (codes "false" ∷ []) rows)
    ∙ alike (found_in rows) (not_some (found_in rows id) (sym (has_row-found id rows) ∙ e))

read-default : (option : OptionName) (rows : List Row) →
    read_in (found_in (with_default rows (built_option option))) ≡ read_in (found_in rows)
read-default option rows = by_case (is_flag option) refl
  where
    by_case : (flag : Bool) → is_flag option ≡ flag →
        read_in (found_in (with_default rows (built_as flag (name_of option))))
        ≡ read_in (found_in rows)
    by_case true e = flag_default (name_of option) rows (not_set option e)
        (has_row (name_of option) rows) refl
    by_case false e = rw (either_way (has_row (name_of option) rows) rows) refl

pub read-defaults : (options : List OptionName) (rows : List Row) →
    read_in (found_in (fold with_default rows (rules_with options))) ≡ read_in (found_in rows)
read-defaults [] rows = rw (either_way (has_row FILES rows) rows) refl
read-defaults (option ∷ options) rows =
    read-defaults options (with_default rows (built_option option)) ∙ read-default option rows

-- ALL OF THE WALK

first_then : (turn later last : Kinds) (end next : Option (List Row)) →
    next ≡ (if is_none (or_else later last) then end else None) →
    (if is_none turn then next else None)
    ≡ (if is_none (or_else (or_else turn later) last) then end else None)
first_then [] later last end next is = is
first_then (kind ∷ kinds) later last end next is = refl

-- the end of the walk, as clap tells it
pub rows_at_end-is : (options : List OptionName) (words : List Text) (start : Walk) →
    rows_at_end options start words
    ≡ (if is_none (or_else (walk_fault (shape_with options) [] start words)
    (settle_fault (rules_with options) false
    (fold (walked (rules_with options) []) start words).held))
    then Some (settled (rules_with options)
    (fold (walked (rules_with options) []) start words).held).rows else None)
unfolding walk_fault walked
rows_at_end-is options [] start = refl
rows_at_end-is options (text ∷ words) start = first_then
    (turn_fault (shape_with options) [] start text)
    (walk_fault (shape_with options) [] (walked (rules_with options) [] start text) words)
    (settle_fault (rules_with options) false
    (fold (walked (rules_with options) []) (walked (rules_with options) [] start text) words).held)
    _ _ (rows_at_end-is options words (walked (rules_with options) [] start text))
