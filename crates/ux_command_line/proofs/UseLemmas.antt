-- What uses say, and the names of options among the words.
use Rattle.std.proofs.Common.{◌≡◌, ◌∙◌, refl, sym, ap, ℕ, Bool, true, false, ◌==◌, ◌+◌, List, [], ◌∷◌, Option, Some, None, option_map, option_and_then, if◌then◌else◌, bytes_eq}
use Rattle.std.specs.List.{list_any, position_or_len}
use Rattle.std.proofs.lemmas.Slice.Eq.{bytes_eq-Decides}
use Rattle.ux_command_line.proofs.BoolLemmas.{differ}
use Rattle.ux_command_line.specs.declared.command.OptionName.{OptionName}
use Rattle.ux_command_line.specs.Settings.{Setting, setting_of, flag_of}
use Rattle.ux_command_line.specs.Tables.{option_among, word_of_option, name_of}
use Rattle.ux_command_line.specs.Arguments.{EQUALS, Given, NOTHING, is_empty, name_in, value_in, with_name, with_setting, with_value}
use Rattle.ux_command_line.proofs.CutLemmas.{take-first, drop-first}
use Rattle.ux_command_line.proofs.Uses.{option_with, Use, named, flagged, valued, in_front}

-- what the uses say, if each value is one of its option's and no name is empty
abbrev pub given_by : List Use → Option Given
given_by [] = Some NOTHING
given_by (named text ∷ uses) =
    if is_empty text then None else option_map (with_name text) (given_by uses)
given_by (flagged option ∷ uses) =
    option_and_then (λ setting. option_map (with_setting setting) (given_by uses)) (flag_of option)
given_by (valued option value ∷ uses) = with_value option value (given_by uses)

-- ONE USE IN FRONT

pub front_name : (text : List ℕ) → is_empty text ≡ false → (uses : Option (List Use)) →
    option_map (with_name text) (option_and_then given_by uses)
    ≡ option_and_then given_by (in_front (named text) uses)
front_name text full None = refl
front_name text full (Some uses) = rw full refl

pub front_empty : (uses : Option (List Use)) →
    None ≡ option_and_then given_by (in_front (named []) uses)
front_empty None = refl
front_empty (Some uses) = refl

none_then : {T U : Type 0} (x : Option T) → ◌≡◌ {A = Option U} (option_and_then (λ _. None) x) None
none_then None = refl
none_then (Some x) = refl

pub front_value : (option : OptionName) (value : List ℕ) (uses : Option (List Use)) →
    with_value option value (option_and_then given_by uses)
    ≡ option_and_then given_by (in_front (valued option value) uses)
front_value option value None = none_then (setting_of option value)
front_value option value (Some uses) = refl

pub front_flag : (option : OptionName) (setting : Setting) → flag_of option ≡ Some setting →
    (uses : Option (List Use)) →
    option_map (with_setting setting) (option_and_then given_by uses)
    ≡ option_and_then given_by (in_front (flagged option) uses)
front_flag option setting flag None = refl
front_flag option setting flag (Some uses) = rw flag refl

-- NAMES OF OPTIONS

bytes_eq-sym : (first second : List ℕ) → bytes_eq first second ≡ bytes_eq second first
bytes_eq-sym first second = by_case (bytes_eq first second) (bytes_eq second first) refl refl
  where
    by_case : (b c : Bool) → bytes_eq first second ≡ b → bytes_eq second first ≡ c → b ≡ c
    by_case true true e f = refl
    by_case false false e f = refl
    by_case true false e f =
        absurd (differ _ ((bytes_eq-Decides second first).1
        (sym ((bytes_eq-Decides first second).0 e))) f)
    by_case false true e f =
        absurd (differ _ ((bytes_eq-Decides first second).1
        (sym ((bytes_eq-Decides second first).0 f))) e)

one_name : (option : OptionName) (name : List ℕ) →
    bytes_eq (45 ∷ 45 ∷ name) (word_of_option option) ≡ bytes_eq (name_of option) name
one_name option name = bytes_eq-sym name (name_of option)

pub among_with : (options : List OptionName) (name : List ℕ) →
    option_among options (45 ∷ 45 ∷ name) ≡ option_with options name
among_with [] name = refl
among_with (option ∷ options) name = rw (one_name option name, among_with options name) refl

-- a word that is no option's
pub none_among : (options : List OptionName) (text : List ℕ) →
    ((option : OptionName) → bytes_eq text (word_of_option option) ≡ false) →
    option_among options text ≡ None
none_among [] text differs = refl
none_among (option ∷ options) text differs = rw (differs option) (none_among options text differs)

pub nothing_named : (option : OptionName) → bytes_eq [] (word_of_option option) ≡ false
nothing_named option = refl

one_hyphen : (option : OptionName) → bytes_eq (45 ∷ []) (word_of_option option) ≡ false
one_hyphen option = refl

short_named : (x : ℕ) (xs : List ℕ) → (x == 45) ≡ false → (option : OptionName) →
    bytes_eq (45 ∷ x ∷ xs) (word_of_option option) ≡ false
short_named x xs e option = rw e refl

abbrev to_equals : List ℕ → ℕ
to_equals text = position_or_len (λ b. b == EQUALS) text

name_in-one : (x : ℕ) (xs : List ℕ) → (x == EQUALS) ≡ false →
    name_in (45 ∷ x ∷ xs) ≡ 45 ∷ x ∷ name_in xs
name_in-one x xs e = rw e (take-first (1 + to_equals xs) 45 (x ∷ xs)
    ∙ ap (λ l. 45 ∷ l) (take-first (to_equals xs) x xs))

pub name_in-short : (x : ℕ) (xs : List ℕ) → (x == 45) ≡ false → (option : OptionName) →
    bytes_eq (name_in (45 ∷ x ∷ xs)) (word_of_option option) ≡ false
name_in-short x xs e option = by_case (x == EQUALS) refl
  where
    by_case : (b : Bool) → (x == EQUALS) ≡ b →
        bytes_eq (name_in (45 ∷ x ∷ xs)) (word_of_option option) ≡ false
    by_case true here = rw here (one_hyphen option)
    by_case false there = ap (λ name. bytes_eq name (word_of_option option))
        (name_in-one x xs there) ∙ short_named x (name_in xs) e option

pub name_in-long : (rest : List ℕ) → name_in (45 ∷ 45 ∷ rest) ≡ 45 ∷ 45 ∷ name_in rest
name_in-long rest = name_in-one 45 rest refl

pub value_in-long : (rest : List ℕ) → value_in (45 ∷ 45 ∷ rest) ≡ value_in rest
value_in-long rest = ap
    (λ value. if list_any (λ b. b == EQUALS) rest then Some value else None)
    (drop-first (1 + to_equals rest) 45 (45 ∷ rest) ∙ drop-first (to_equals rest) 45 rest)
