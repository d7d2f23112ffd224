-- Names and settings put after what is given.
use Rattle.std.proofs.Common.{◌≡◌, ℕ, drop, List, [], ◌∷◌, ◌++◌, refl, Bool, true, false, Option, Some, None, option_map}
use Rattle.std.specs.List.{list_any}
use Rattle.ux_command_line.specs.Settings.{Setting, setting_of}
use Rattle.ux_command_line.specs.declared.command.Command.{Command}
use Rattle.ux_command_line.specs.declared.command.OptionName.{OptionName}
use Rattle.ux_command_line.specs.Words as word
use Rattle.ux_command_line.specs.Arguments.{word_of, given_of, Given, is_empty, with_name, with_setting, names_of}
use Rattle.std.proofs.lemmas.List.{append_assoc}

-- what is given first, and then what follows
abbrev pub both : Given → Given → Given
both first later =
    record { settings = first.settings ++ later.settings; files = first.files ++ later.files }

abbrev pub with_all : Given → Option Given → Option Given
with_all first = option_map (both first)

-- the setting of an option to the first of the words
abbrev pub first_setting : OptionName → List (List ℕ) → Option Setting
first_setting option [] = None
first_setting option (value ∷ words) = setting_of option value

-- a name before what follows is one after what is given first
pub with_all-name : (first : Given) (name : List ℕ) (later : Option Given) →
    with_all first (option_map (with_name name) later)
    ≡ with_all (record first { files = first.files ++ name ∷ [] }) later
with_all-name first name None = refl
with_all-name first name (Some later) =
    rw (append_assoc first.files (name ∷ []) later.files) refl

pub with_all-setting : (first : Given) (setting : Setting) (later : Option Given) →
    with_all first (option_map (with_setting setting) later)
    ≡ with_all (record first { settings = first.settings ++ setting ∷ [] }) later
with_all-setting first setting None = refl
with_all-setting first setting (Some later) =
    rw (append_assoc first.settings (setting ∷ []) later.settings) refl

pub names_of-name : (name : List ℕ) (words : List (List ℕ)) → is_empty name ≡ false →
    names_of (name ∷ words) ≡ option_map (with_name name) (names_of words)
names_of-name name words full = by_case (list_any is_empty words) refl
  where
    by_case : (b : Bool) → list_any is_empty words ≡ b →
        names_of (name ∷ words) ≡ option_map (with_name name) (names_of words)
    by_case true e = rw (full, e) refl
    by_case false e = rw (full, e) refl

-- THE FIRST WORD

module _ (command : Command) (text : List ℕ) where
  -- a name is put before what follows
  pub given_of-name : (words : List (List ℕ)) → word_of command text ≡ word.FileName →
      given_of command (text ∷ words) ≡ option_map (with_name text) (given_of command words)
  given_of-name [] is = rw is refl
  given_of-name (value ∷ words) is = rw is refl

  -- so is a setting
  pub given_of-setting : (setting : Setting) (words : List (List ℕ)) →
      word_of command text ≡ word.Setting setting →
      given_of command (text ∷ words) ≡ option_map (with_setting setting) (given_of command words)
  given_of-setting setting [] is = rw is refl
  given_of-setting setting (value ∷ words) is = rw is refl

  -- an option takes the next word
  pub given_of-value : (option : OptionName) (setting : Setting) (words : List (List ℕ)) →
      word_of command text ≡ word.AwaitsValue option → first_setting option words ≡ Some setting →
      given_of command (text ∷ words)
      ≡ option_map (with_setting setting) (given_of command (drop 1 words))
  given_of-value option setting [] is found = let wrong : None ≡ Some setting = found in cc
  given_of-value option setting (value ∷ words) is found = rw (is, found) refl
