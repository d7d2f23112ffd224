-- What is written is read back, and what is read was written so.
use Rattle.std.proofs.Common.{arith, ⊎_elim, ◌≡◌, ◌∙◌, ℕ, Bool, true, false, not, List, [], ◌∷◌, ◌++◌, length, codes, Option, Some, None, option_map, refl, sym, ap, subst, if◌then◌else◌}
use Rattle.std.specs.List.{Contains, list_any}
use Rattle.std.proofs.lemmas.List.Elements.{Contains-push, Contains-push_cases, Contains-append_left, Contains-append_right, Contains-append_cases}
use Rattle.std.specs.Option.{option_map_or}
use Rattle.std.specs.Str.{bytes_eq}
use Rattle.std.proofs.lemmas.Slice.Eq.{bytes_eq-Decides}
use Rattle.ux_command_line.specs.declared.command.Command.{Command}
use Rattle.ux_command_line.specs.declared.command.OptionName.{OptionName}
use Rattle.ux_command_line.specs.Settings.{Setting, set}
use Rattle.ux_command_line.specs.Words.{Word}
use Rattle.ux_command_line.specs.Words as word
use Rattle.ux_command_line.specs.Tables.{name_of, has_value, is_flag, option_among, option_named, options_of, word_of_option}
use Rattle.ux_command_line.specs.Arguments.{EQUALS, Given, NOTHING, given_of, is_empty, is_name, name_in, names_of, said_by, said_of, said_with, value_in, word_of, with_name, with_setting}
use Rattle.ux_command_line.specs.Writing.{Has, Writes, nothing, after_end, file, flag, spaced, joined}
use Rattle.ux_command_line.proofs.BoolLemmas.{differ, not_empty, not_false}
use Rattle.ux_command_line.proofs.EqualsLemmas.{alone_again, joined_again, name_in-alone, name_in-joined, value_in-alone, value_in-joined}
use Rattle.ux_command_line.proofs.FlagLemmas.{flag_made, no_flag, no_value_made, value_made, value_no_flag}
use Rattle.ux_command_line.proofs.GivenLemmas.{given_of-name, given_of-setting, given_of-value}
use Rattle.ux_command_line.proofs.ReadingLemmas.{awaited, given_of-first}
use Rattle.ux_command_line.proofs.TableLemmas.{no_equals, of_each, own_name, same_option}

not_end : (option : OptionName) → bytes_eq (word_of_option option) (codes "--") ≡ false
not_end option =
    not_false _ (of_each (λ o. not (bytes_eq (word_of_option o) (codes "--"))) refl option)

not_nothing : (name value : List ℕ) → bytes_eq (name ++ EQUALS ∷ value) [] ≡ false
not_nothing [] value = refl
not_nothing (x ∷ xs) value = refl

-- an option of the list is found by its word
has_found : (options : List OptionName) (option : OptionName) → Contains options option →
    option_among options (word_of_option option) ≡ Some option
has_found [] option is = absurd (let below = is.1 in omega (arith, below))
has_found (first ∷ options) option is =
    by_case (bytes_eq (name_of option) (name_of first)) refl (has_found options option)
  where
    apart : bytes_eq (name_of option) (name_of first) ≡ false → first ≡ option → ⊥
    apart e same = differ _ (own_name option)
        (subst (λ (o : OptionName). bytes_eq (name_of option) (name_of o) ≡ false) same e)

    further : bytes_eq (name_of option) (name_of first) ≡ false → Contains options option
    further e = ⊎_elim
        (λ here. ⊎_elim (λ none. absurd (let below = none.1 in omega (arith, below)))
        (λ same. absurd (apart e same)) (Contains-push_cases [] first option here))
        (λ later. later) (Contains-append_cases (first ∷ []) options option is)

    by_case : (b : Bool) → bytes_eq (name_of option) (name_of first) ≡ b →
        (Contains options option →
        option_among options (word_of_option option) ≡ Some option) →
        option_among (first ∷ options) (word_of_option option) ≡ Some option
    by_case true e later = rw e (ap (λ o. Some o) (sym (same_option option first e)))
    by_case false e later = rw e (later (further e))

-- and what is found is one of the list
found_has : (options : List OptionName) (name : List ℕ) (option : OptionName) →
    option_among options name ≡ Some option → Contains options option
found_has [] name option found = let wrong : None ≡ Some option = found in cc
found_has (first ∷ options) name option found =
    by_case (bytes_eq name (word_of_option first)) refl (found_has options name option)
  where
    by_case : (b : Bool) → bytes_eq name (word_of_option first) ≡ b →
        (option_among options name ≡ Some option → Contains options option) →
        Contains (first ∷ options) option
    by_case true e later =
        let here : Some first ≡ Some option = rw e at found in
        let same : first ≡ option = cc in
        subst (Contains (first ∷ options)) same
        (Contains-append_left (first ∷ []) options first (Contains-push [] first))
    by_case false e later =
        Contains-append_right (first ∷ []) options option (later (rw e at found))

module _ (command : Command) where
  -- a name of a file isn't `--`
  word_of-name : (name : List ℕ) → is_name name ≡ true → word_of command name ≡ word.FileName
  word_of-name name is = by_case (bytes_eq name (codes "--")) refl
    where
      by_case : (b : Bool) → bytes_eq name (codes "--") ≡ b → word_of command name ≡ word.FileName
      by_case true end =
          let same = (bytes_eq-Decides name (codes "--")).0 end in
          let wrong : false ≡ true = subst (λ (n : List ℕ). is_name n ≡ true) same is in cc
      by_case false other = rw (other, is) refl

  -- an option alone
  word_of-option : (option : OptionName) →
      word_of command (word_of_option option) ≡ said_by command (word_of_option option) None
  word_of-option option = rw (not_end option) (rw (not_empty (length (name_of option)))
      (rw (
        name_in-alone (word_of_option option) (no_equals option),
        value_in-alone (word_of_option option) (no_equals option),
      ) refl))

  -- an option with its value after `=`
  word_of-joined : (option : OptionName) (value : List ℕ) →
      word_of command (word_of_option option ++ EQUALS ∷ value)
      ≡ said_by command (word_of_option option) (Some value)
  word_of-joined option value = rw (not_nothing (name_of option) value)
      (rw (not_empty (length (name_of option ++ EQUALS ∷ value)))
      (rw (
        name_in-joined (word_of_option option) value (no_equals option),
        value_in-joined (word_of_option option) value (no_equals option),
      ) refl))

  names_read : (names : List (List ℕ)) → list_any is_empty names ≡ false →
      given_of command (codes "--" ∷ names) ≡ Some (record { settings = []; files = names })
  names_read [] full = refl
  names_read (name ∷ names) full = rw full refl

  -- what the words write is what they say
  pub given_of-Writes : {words : List (List ℕ)} {given : Given} → Writes command words given →
      given_of command words ≡ Some given
  given_of-Writes nothing = refl
  given_of-Writes (after_end {names = names} full) = names_read names full
  given_of-Writes (file {name = name} {words = words} is later) =
      given_of-name command name words (word_of-name name is)
      ∙ ap (option_map (with_name name)) (given_of-Writes later)
  given_of-Writes (flag {words = words} option has is later) =
      given_of-setting command (word_of_option option) (set option []) words
      (word_of-option option
      ∙ rw (has_found (options_of command) option has, flag_made option is) refl)
      ∙ ap (option_map (with_setting (set option []))) (given_of-Writes later)
  given_of-Writes (spaced {words = words} option value has is later) =
      given_of-value command (word_of_option option) option (set option value) (value ∷ words)
      (word_of-option option ∙ rw (
        has_found (options_of command) option has,
        no_flag option (value_no_flag option value is),
      ) refl)
      (value_made option value is)
      ∙ ap (option_map (with_setting (set option value))) (given_of-Writes later)
  given_of-Writes (joined {words = words} option value has is later) =
      given_of-setting command (word_of_option option ++ EQUALS ∷ value) (set option value) words
      (word_of-joined option value
      ∙ rw (has_found (options_of command) option has, value_made option value is) refl)
      ∙ ap (option_map (with_setting (set option value))) (given_of-Writes later)

  -- ONE WORD

  -- an option that is found is the one that is written so
  named_so : (options : List OptionName) (name : List ℕ) (option : OptionName) →
      option_among options name ≡ Some option → name ≡ word_of_option option
  named_so [] name option found = let wrong : None ≡ Some option = found in cc
  named_so (first ∷ options) name option found =
      by_case (bytes_eq name (word_of_option first)) refl (named_so options name option)
    where
      by_case : (b : Bool) → bytes_eq name (word_of_option first) ≡ b →
          (option_among options name ≡ Some option → name ≡ word_of_option option) →
          name ≡ word_of_option option
      by_case true e later =
          let here : Some first ≡ Some option = rw e at found in
          let same : first ≡ option = cc in
          (bytes_eq-Decides name (word_of_option first)).0 e ∙ ap word_of_option same
      by_case false e later = later (rw e at found)

  -- what a word writes, by what it says
  module _ (text : List ℕ) where
    abbrev Means : Word → Type 0
    Means word.OptionsEnd = text ≡ codes "--"
    Means word.FileName = is_name text ≡ true
    Means (word.Setting setting) = (words : List (List ℕ)) (given : Given) →
        Writes command words given → Writes command (text ∷ words) (with_setting setting given)
    Means (word.AwaitsValue option) = (value : List ℕ) (words : List (List ℕ)) (given : Given) →
        has_value option value ≡ true → Writes command words given →
        Writes command (text ∷ value ∷ words) (with_setting (set option value) given)
    Means word.Unknown = Unit

    module _ (option : OptionName) (has : Has command option)
        (named : name_in text ≡ word_of_option option) where
      with_value_joined : (value : List ℕ) → value_in text ≡ Some value →
          (b : Bool) → has_value option value ≡ b → Means (said_of option (Some value))
      with_value_joined value is true e = rw (value_made option value e) (λ words given later.
          subst (λ t. Writes command (t ∷ words) (with_setting (set option value) given))
          (sym (joined_again text value is ∙ ap (λ n. n ++ EQUALS ∷ value) named))
          (joined option value has e later))
      with_value_joined value is false e = rw (no_value_made option value e) tt

      alone : value_in text ≡ None → (b : Bool) → is_flag option ≡ b → Means (said_of option None)
      alone is true e = rw (flag_made option e) (λ words given later.
          subst (λ t. Writes command (t ∷ words) (with_setting (set option []) given))
          (sym (sym (alone_again text is) ∙ named)) (flag option has e later))
      alone is false e = rw (no_flag option e) (λ value words given own later.
          subst (λ t. Writes command (t ∷ value ∷ words) (with_setting (set option value) given))
          (sym (sym (alone_again text is) ∙ named)) (spaced option value has own later))

      by_value : (value : Option (List ℕ)) → value_in text ≡ value → Means (said_of option value)
      by_value (Some value) is = with_value_joined value is (has_value option value) refl
      by_value None is = alone is (is_flag option) refl

    by_option : (found : Option OptionName) → option_named command (name_in text) ≡ found →
        Means (option_map_or (λ option. said_of option (value_in text)) found word.Unknown)
    by_option None found = tt
    by_option (Some option) found =
        let named = named_so (options_of command) (name_in text) option found in
        by_value option (found_has (options_of command) (name_in text) option found) named
        (value_in text) refl

    by_name : (b : Bool) → is_name text ≡ b → Means (if b then word.FileName
        else said_by command (name_in text) (value_in text))
    by_name true e = e
    by_name false e = by_option (option_named command (name_in text)) refl

    by_end : (b : Bool) → bytes_eq text (codes "--") ≡ b → Means (if b then word.OptionsEnd
        else if is_name text then word.FileName
        else said_by command (name_in text) (value_in text))
    by_end true e = (bytes_eq-Decides text (codes "--")).0 e
    by_end false e = by_name (is_name text) refl

    means : Means (word_of command text)
    means = by_end (bytes_eq text (codes "--")) refl

  -- ALL WORDS

  abbrev IsRead : List (List ℕ) → Type 0
  IsRead words = (given : Given) → given_of command words ≡ Some given →
      Writes command words given

  -- the words after the first
  abbrev IsReadAfter : List (List ℕ) → Type 0
  IsReadAfter [] = Unit
  IsReadAfter (value ∷ words) = IsRead words

  module _ (text : List ℕ) (words : List (List ℕ)) (given : Given) where
    -- names after `--`
    ends : text ≡ codes "--" → (b : Bool) → list_any is_empty words ≡ b →
        names_of words ≡ Some given → Writes command (text ∷ words) given
    ends end true e is = let wrong : None ≡ Some given = rw e at is in cc
    ends end false e is =
        let named : Some (record { settings = []; files = words }) ≡ Some given = rw e at is in
        let same : record { settings = []; files = words } ≡ given = cc in
        subst (λ t. Writes command (t ∷ words) given) (sym end)
        (subst (Writes command (codes "--" ∷ words)) same (after_end e))

    -- a name
    names : is_name text ≡ true → (later : Option Given) → ((first : Given) →
        later ≡ Some first → Writes command words first) →
        option_map (with_name text) later ≡ Some given → Writes command (text ∷ words) given
    names name None writes is = let wrong : None ≡ Some given = is in cc
    names name (Some first) writes is =
        let same : with_name text first ≡ given =
        let put : Some (with_name text first) ≡ Some given = is in cc in
        subst (Writes command (text ∷ words)) same (file name (writes first refl))

    -- an option
    sets : (setting : Setting) → Means text (word.Setting setting) → (later : Option Given) →
        ((first : Given) → later ≡ Some first → Writes command words first) →
        option_map (with_setting setting) later ≡ Some given → Writes command (text ∷ words) given
    sets setting means_it None writes is = let wrong : None ≡ Some given = is in cc
    sets setting means_it (Some first) writes is =
        let same : with_setting setting first ≡ given =
        let put : Some (with_setting setting first) ≡ Some given = is in cc in
        subst (Writes command (text ∷ words)) same (means_it words first (writes first refl))

  -- an option and the next word
  module _ (text value : List ℕ) (words : List (List ℕ)) (given : Given) (option : OptionName)
      (means_it : Means text (word.AwaitsValue option)) where
    values : has_value option value ≡ true → (later : Option Given) →
        ((first : Given) → later ≡ Some first → Writes command words first) →
        option_map (with_setting (set option value)) later ≡ Some given →
        Writes command (text ∷ value ∷ words) given
    values own None writes is = let wrong : None ≡ Some given = is in cc
    values own (Some first) writes is =
        let same : with_setting (set option value) first ≡ given =
        let put : Some (with_setting (set option value) first) ≡ Some given = is in cc in
        subst (Writes command (text ∷ value ∷ words)) same
        (means_it value words first own (writes first refl))

    waits : (b : Bool) → has_value option value ≡ b → IsRead words →
        awaited command option (value ∷ words) ≡ Some given →
        Writes command (text ∷ value ∷ words) given
    waits true e writes is = values e (given_of command words) writes
        (rw (value_made option value e) at is)
    waits false e writes is =
        let wrong : None ≡ Some given = rw (no_value_made option value e) at is in cc

  by_word : (text : List ℕ) (words : List (List ℕ)) → IsRead words → IsReadAfter words →
      (given : Given) (said : Word) → Means text said →
      said_with said text words (given_of command words) (λ option. awaited command option words)
      ≡ Some given → Writes command (text ∷ words) given
  by_word text words later after given word.OptionsEnd it is =
      ends text words given it (list_any is_empty words) refl is
  by_word text words later after given word.FileName it is =
      names text words given it (given_of command words) later is
  by_word text words later after given (word.Setting setting) it is =
      sets text words given setting it (given_of command words) later is
  by_word text [] later after given (word.AwaitsValue option) it is =
      let wrong : None ≡ Some given = is in cc
  by_word text (value ∷ words) later after given (word.AwaitsValue option) it is =
      waits text value words given option it (has_value option value) refl after is
  by_word text words later after given word.Unknown it is =
      let wrong : None ≡ Some given = is in cc

  reads : (words : List (List ℕ)) → IsRead words × IsReadAfter words
  reads [] = (
    λ given is. subst (Writes command []) (let read : Some NOTHING ≡ Some given = is in cc) nothing,
    tt,
  )
  reads (text ∷ words) = (
    λ given is. by_word text words (reads words).0 (reads words).1 given (word_of command text)
        (means text) (sym (given_of-first command text words) ∙ is),
    (reads words).0,
  )

  -- what the words say is what they write
  pub Writes-given_of : (words : List (List ℕ)) (given : Given) →
      given_of command words ≡ Some given → Writes command words given
  Writes-given_of words = (reads words).0
