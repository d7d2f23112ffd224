-- What holds of each option, by the table.
use Rattle.std.proofs.Common.{◌≡◌, ◌∙◌, refl, sym, ap, subst, Bool, true, false, not, ◌==◌, List, [], ◌∷◌, Some, None, find, bytes_eq}
use Rattle.std.specs.List.{list_all, list_any}
use Rattle.std.proofs.lemmas.Slice.Eq.{bytes_eq-Decides}
use Rattle.ux_command_line.specs.declared.command.OptionName.{OptionName}
use Rattle.ux_command_line.specs.declared.command.OptionName.TheVariants as option
use Rattle.ux_command_line.specs.Tables.{ALL_OPTIONS, name_of}
use Rattle.ux_command_line.specs.Arguments.{EQUALS}
use Rattle.ux_command_line.specs.Matching.{FILES}
use Rattle.ux_command_line.proofs.BoolLemmas.{and_left, and_right, differ, not_false}
use Rattle.ux_command_line.proofs.Uses.{option_with}

-- each option is found under its name, so that all are listed, and no two have one name
among_all : (option : OptionName) → option_with ALL_OPTIONS (name_of option) ≡ Some option
among_all option.Mode = refl
among_all option.Policy = refl
among_all option.NoVar = refl
among_all option.Chars = refl
among_all option.Left = refl
among_all option.Right = refl
among_all option.Sort = refl
among_all option.Delas = refl
among_all option.Trace = refl
among_all option.Depth = refl

-- no two options have one name
pub same_option : (first second : OptionName) →
    bytes_eq (name_of first) (name_of second) ≡ true → first ≡ second
same_option first second e =
    let names = (bytes_eq-Decides (name_of first) (name_of second)).0 e in
    let found : Some first ≡ Some second =
    sym (among_all first) ∙ (ap (option_with ALL_OPTIONS) names ∙ among_all second) in
    cc

-- an option's own name
pub own_name : (option : OptionName) → bytes_eq (name_of option) (name_of option) ≡ true
own_name option = (bytes_eq-Decides (name_of option) (name_of option)).1 refl

module _ (p : OptionName → Bool) where
  -- what is found among options that pass passes
  found_passes : (test : OptionName → Bool) (options : List OptionName) (option : OptionName) →
      list_all p options ≡ true → find test options ≡ Some option → p option ≡ true
  found_passes test [] option all found = let wrong : None ≡ Some option = found in cc
  found_passes test (first ∷ options) option all found = by_case (test first) refl
      (found_passes test options option (and_right (p first) (list_all p options) all))
    where
      by_case : (b : Bool) → test first ≡ b →
          (find test options ≡ Some option → p option ≡ true) → p option ≡ true
      by_case true e later =
          let here : Some first ≡ Some option = rw e at found in
          let same : first ≡ option = cc in
          subst (λ o. p o ≡ true) same (and_left (p first) (list_all p options) all)
      by_case false e later = later (rw e at found)

  -- what all options of the list pass, each option passes
  pub of_each : list_all p ALL_OPTIONS ≡ true → (option : OptionName) → p option ≡ true
  of_each all option = found_passes (λ o. bytes_eq (name_of o) (name_of option)) ALL_OPTIONS option
      all (among_all option)

  pub all_pass : ((option : OptionName) → p option ≡ true) → (options : List OptionName) →
      list_all p options ≡ true
  all_pass each [] = refl
  all_pass each (option ∷ options) = rw (each option, all_pass each options) refl

  -- one option that fails is enough
  pub some_fails : (option : OptionName) → p option ≡ false → list_all p ALL_OPTIONS ≡ false
  some_fails option fails = by_case (list_all p ALL_OPTIONS) refl
    where
      by_case : (b : Bool) → list_all p ALL_OPTIONS ≡ b → list_all p ALL_OPTIONS ≡ false
      by_case false e = e
      by_case true e = absurd (differ _ (of_each e option) fails)

-- no option is named as the files are
pub not_files : (option : OptionName) → bytes_eq (name_of option) FILES ≡ false
not_files option = not_false _ (of_each (λ o. not (bytes_eq (name_of o) FILES)) refl option)

pub files_other : (option : OptionName) → bytes_eq FILES (name_of option) ≡ false
files_other option = not_false _ (of_each (λ o. not (bytes_eq FILES (name_of o))) refl option)

-- no option's name has a `=`
pub no_equals : (option : OptionName) → list_any (λ b. b == EQUALS) (name_of option) ≡ false
no_equals option =
    not_false _ (of_each (λ o. not (list_any (λ b. b == EQUALS) (name_of o))) refl option)
