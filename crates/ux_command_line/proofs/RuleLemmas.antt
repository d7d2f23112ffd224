-- Which rule of the command a name, an id or a place finds.
use Rattle.std.proofs.Common.{◌≡◌, refl, ap, ℕ, Bool, true, false, cond, ◌||◌, List, [], ◌∷◌, Some, None, option_map, bytes_eq}
use Rattle.clap.specs.Walk.{Text, arg_by_id, arg_by_index, arg_by_long, arg_by_short, takes_values}
use Rattle.ux_command_line.specs.declared.command.OptionName.{OptionName}
use Rattle.ux_command_line.specs.Matching.{FILES}
use Rattle.ux_command_line.proofs.TableLemmas.{not_files, own_name, same_option}
use Rattle.ux_command_line.proofs.Uses.{built_as, built_option, built_files, rules_with, option_with}
use Rattle.ux_command_line.specs.Tables.{name_of, is_flag}

-- the names of files are the first positional
pub files_by_index : (options : List OptionName) →
    arg_by_index (rules_with options) 1 ≡ Some built_files
files_by_index [] = refl
files_by_index (option ∷ options) = files_by_index options

-- no option has a short name
pub none_by_short : (options : List OptionName) (x : ℕ) →
    arg_by_short (rules_with options) x ≡ None
none_by_short [] x = refl
none_by_short (option ∷ options) x = none_by_short options x

or_false : (b : Bool) → (b || false) ≡ b
or_false true = refl
or_false false = refl

-- a long name finds the option of this name
pub option_by_long : (options : List OptionName) (name : Text) →
    arg_by_long (rules_with options) name ≡ option_map built_option (option_with options name)
option_by_long [] name = refl
option_by_long (option ∷ options) name = rw (or_false (bytes_eq (name_of option) name))
    (by_case (bytes_eq (name_of option) name) (option_by_long options name))
  where
    by_case : (b : Bool) →
        arg_by_long (rules_with options) name ≡ option_map built_option (option_with options name) →
        cond b (Some (built_option option)) (arg_by_long (rules_with options) name)
        ≡ option_map built_option (cond b (Some option) (option_with options name))
    by_case true later = refl
    by_case false later = later

pub files_by_id : (options : List OptionName) →
    arg_by_id (rules_with options) FILES ≡ Some built_files
files_by_id [] = refl
files_by_id (option ∷ options) = rw (not_files option) (files_by_id options)

-- an option that a name finds is found by its id
pub option_by_id : (options : List OptionName) (option : OptionName) (name : Text) →
    option_with options name ≡ Some option →
    arg_by_id (rules_with options) (name_of option) ≡ Some (built_option option)
option_by_id [] option name found = let wrong : None ≡ Some option = found in cc
option_by_id (first ∷ options) option name found =
    by_case (bytes_eq (name_of first) name) refl (option_by_id options option name)
  where
    same : first ≡ option → arg_by_id (rules_with (first ∷ options)) (name_of option)
        ≡ Some (built_option option)
    same e = rw (e, own_name option) refl

    further : (b : Bool) → bytes_eq (name_of first) (name_of option) ≡ b →
        arg_by_id (rules_with options) (name_of option) ≡ Some (built_option option) →
        arg_by_id (rules_with (first ∷ options)) (name_of option) ≡ Some (built_option option)
    further true e later = same (same_option first option e)
    further false e later = rw e later

    by_case : (b : Bool) → bytes_eq (name_of first) name ≡ b →
        (option_with options name ≡ Some option →
        arg_by_id (rules_with options) (name_of option) ≡ Some (built_option option)) →
        arg_by_id (rules_with (first ∷ options)) (name_of option) ≡ Some (built_option option)
    by_case true here later =
        same (let e : Some first ≡ Some option = rw here at found in cc)
    by_case false there later = further (bytes_eq (name_of first) (name_of option)) refl
        (later (rw there at found))

pub takes_value : (option : OptionName) → is_flag option ≡ false →
    takes_values (built_option option) ≡ true
takes_value option e = ap (λ flag. takes_values (built_as flag (name_of option))) e

pub takes_none : (option : OptionName) → is_flag option ≡ true →
    takes_values (built_option option) ≡ false
takes_none option e = ap (λ flag. takes_values (built_as flag (name_of option))) e
