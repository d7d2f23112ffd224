-- What the words say is what their uses say.
use Rattle.std.proofs.Common.{◌≡◌, ◌∙◌, refl, ap, ℕ, suc, Bool, true, false, ◌&&◌, List, [], ◌∷◌, length, Option, Some, None, is_some, option_map, option_and_then, if◌then◌else◌, nat_lt, nat_le}
use Rattle.std.specs.Option.{option_map_or}
use Rattle.ux_command_line.specs.declared.command.Command.{Command}
use Rattle.ux_command_line.specs.declared.command.OptionName.{OptionName}
use Rattle.ux_command_line.specs.declared.command.Takes.{Takes}
use Rattle.ux_command_line.specs.declared.command.Takes.TheVariants as takes
use Rattle.ux_command_line.specs.Settings.{Setting, set, setting_of}
use Rattle.ux_command_line.specs.Words.{Word}
use Rattle.ux_command_line.specs.Words as word
use Rattle.ux_command_line.specs.Tables.{options_of, accepts, is_flag, number_of, takes_of}
use Rattle.ux_command_line.specs.Arguments.{Given, is_empty, name_in, value_in, said_of, said_with, word_of, with_setting, with_value, names_of, given_of}
use Rattle.ux_command_line.proofs.BoolLemmas.{not_empty}
use Rattle.ux_command_line.proofs.GivenLemmas.{names_of-name}
use Rattle.ux_command_line.proofs.FlagLemmas.{flag_made, flag_value, no_flag, no_value_made}
use Rattle.ux_command_line.proofs.Uses.{option_with, named, valued, in_front, anew, awaits, behind, uses_by_kind, uses_by_option, uses_by_word, uses_of}
use Rattle.ux_command_line.proofs.WordForms.{Form, empty, hyphen, end, long, short, other, form_of}
use Rattle.ux_command_line.proofs.UseLemmas.{given_by, front_name, front_empty, front_value, front_flag, among_with, none_among, nothing_named, name_in-short, name_in-long, value_in-long}

-- VALUES

both_fail : (a b : Bool) (x : Option ℕ) → (if a && (b && false) then x else None) ≡ None
both_fail true true x = refl
both_fail true false x = refl
both_fail false b x = refl

no_number : (digits least most : ℕ) (rest : List ℕ) →
    number_of digits least most (45 ∷ rest) ≡ None
no_number digits least most rest =
    both_fail (nat_lt 0 (length (45 ∷ rest))) (nat_le (length (45 ∷ rest)) digits) _

-- no value begins with a hyphen
none_accepted : (kind : Takes) (rest : List ℕ) → accepts kind (45 ∷ rest) ≡ false
none_accepted takes.Nothing rest = refl
none_accepted takes.Mode rest = refl
none_accepted takes.Policy rest = refl
none_accepted takes.Width rest = ap is_some (no_number 4 0 1000 rest)
none_accepted takes.Sort rest = refl
none_accepted takes.Depth rest = ap is_some (no_number 3 0 100 rest)

no_value : (option : OptionName) (rest : List ℕ) → setting_of option (45 ∷ rest) ≡ None
no_value option rest = no_value_made option (45 ∷ rest) (none_accepted (takes_of option) rest)

-- ONE WORD

module _ (command : Command) where
  -- what an option says that takes the first of the words as its value
  abbrev pub awaited : OptionName → List (List ℕ) → Option Given
  awaited option [] = None
  awaited option (value ∷ words) = with_value option value (given_of command words)

  pub given_of-first : (text : List ℕ) (words : List (List ℕ)) → given_of command (text ∷ words)
      ≡ said_with (word_of command text) text words (given_of command words)
      (λ option. awaited option words)
  given_of-first text [] = refl
  given_of-first text (value ∷ words) = refl

  record IsSaid (words : List (List ℕ)) : Type 0 where
    at_word : given_of command words
        ≡ option_and_then given_by (uses_of (options_of command) anew words)
    at_value : (option : OptionName) → awaited option words
        ≡ option_and_then given_by (uses_of (options_of command) (awaits option) words)
    at_name : names_of words
        ≡ option_and_then given_by (uses_of (options_of command) behind words)

  module _ (words : List (List ℕ)) (later : IsSaid words) where
    name_step : (text : List ℕ) → names_of (text ∷ words)
        ≡ option_and_then given_by (uses_of (options_of command) behind (text ∷ words))
    name_step [] = front_empty (uses_of (options_of command) behind words)
    name_step (x ∷ xs) = names_of-name (x ∷ xs) words (not_empty (length xs))
        ∙ (ap (option_map _) later.at_name
        ∙ front_name (x ∷ xs) (not_empty (length xs))
        (uses_of (options_of command) behind words))

    -- a name of a file
    by_name : (text : List ℕ) → is_empty text ≡ false →
        said_with word.FileName text words (given_of command words) (λ option. awaited option words)
        ≡ option_and_then given_by
        (in_front (named text) (uses_of (options_of command) anew words))
    by_name text full = ap (option_map _) later.at_word
        ∙ front_name text full (uses_of (options_of command) anew words)

    value_said : (option : OptionName) (value : List ℕ) →
        with_value option value (given_of command words) ≡ option_and_then given_by
        (in_front (valued option value) (uses_of (options_of command) anew words))
    value_said option value = ap (with_value option value) later.at_word
        ∙ front_value option value (uses_of (options_of command) anew words)

    -- an option with its value
    valued_said : (text : List ℕ) (option : OptionName) (given : Option Setting) →
        said_with (option_map_or word.Setting given word.Unknown) text words
        (given_of command words) (λ o. awaited o words)
        ≡ option_and_then (λ setting. option_map (with_setting setting) (given_of command words))
        given
    valued_said text option None = refl
    valued_said text option (Some setting) = refl

    by_kind : (text : List ℕ) (option : OptionName) (kind : Bool) → is_flag option ≡ kind →
        (value : Option (List ℕ)) →
        said_with (said_of option value) text words (given_of command words)
        (λ o. awaited o words)
        ≡ option_and_then given_by (uses_by_kind kind option value
        (λ reading. uses_of (options_of command) reading words))
    by_kind text option true flag (Some value) = rw (flag_value option flag value) refl
    by_kind text option true flag None =
        rw (flag_made option flag) (ap (option_map (with_setting (set option []))) later.at_word
        ∙ front_flag option (set option []) (flag_made option flag)
        (uses_of (options_of command) anew words))
    by_kind text option false kind (Some value) =
        valued_said text option (setting_of option value)
        ∙ value_said option value
    by_kind text option false kind None = rw (no_flag option kind) (later.at_value option)

    by_option : (text : List ℕ) (found : Option OptionName) (value : Option (List ℕ)) →
        said_with (option_map_or (λ option. said_of option value) found word.Unknown) text words
        (given_of command words) (λ o. awaited o words)
        ≡ option_and_then given_by (uses_by_option found value
        (λ reading. uses_of (options_of command) reading words))
    by_option text None value = refl
    by_option text (Some option) value = by_kind text option (is_flag option) refl value

    by_form : (text : List ℕ) → Form text →
        said_with (word_of command text) text words (given_of command words)
        (λ option. awaited option words)
        ≡ option_and_then given_by (uses_by_word (options_of command) text
        (λ reading. uses_of (options_of command) reading words))
    by_form text empty = rw (none_among (options_of command) [] nothing_named)
        (front_empty (uses_of (options_of command) anew words))
    by_form text hyphen = by_name (45 ∷ []) refl
    by_form text end = later.at_name
    by_form text (long x xs) = rw (not_empty (suc (length xs)))
        (rw (
          name_in-long (x ∷ xs),
          value_in-long (x ∷ xs),
          among_with (options_of command) (name_in (x ∷ xs)),
        )
        (by_option (45 ∷ 45 ∷ x ∷ xs) (option_with (options_of command) (name_in (x ∷ xs)))
        (value_in (x ∷ xs))))
    by_form text (short x xs e) =
        let none = none_among (options_of command) (name_in (45 ∷ x ∷ xs)) (name_in-short x xs e) in
        rw (e, not_empty (length xs)) (rw none (rw e refl))
    by_form text (other x xs e) = rw e (rw e (by_name (x ∷ xs) (not_empty (length xs))))

    by_value : (option : OptionName) (text : List ℕ) → Form text →
        awaited option (text ∷ words) ≡ option_and_then given_by
        (uses_of (options_of command) (awaits option) (text ∷ words))
    by_value option text empty = value_said option []
    by_value option text hyphen = value_said option (45 ∷ [])
    by_value option text end = rw (no_value option (45 ∷ [])) refl
    by_value option text (long x xs) = rw (no_value option (45 ∷ x ∷ xs)) refl
    by_value option text (short x xs e) = rw (no_value option (x ∷ xs), e) (rw e refl)
    by_value option text (other x xs e) = rw e (rw e (value_said option (x ∷ xs)))

  says : (words : List (List ℕ)) → IsSaid words
  says [] = record { at_word = refl; at_value = λ option. refl; at_name = refl }
  says (text ∷ words) = record {
    at_word = given_of-first text words ∙ by_form words (says words) text (form_of text);
    at_value = λ option. by_value words (says words) option text (form_of text);
    at_name = name_step words (says words) text;
  }

  -- what the words say is what their uses say
  pub given_of-uses : (words : List (List ℕ)) → given_of command words
      ≡ option_and_then given_by (uses_of (options_of command) anew words)
  given_of-uses words = (says words).at_word
