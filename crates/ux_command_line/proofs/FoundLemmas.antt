-- What is found after all uses is what they say.
use Rattle.std.proofs.Common.{◌≡◌, ◌∙◌, refl, sym, ap, ℕ, Bool, true, false, List, [], ◌∷◌, ◌++◌, append-nil, Option, Some, None, IsSome, is_some, option_map, option_and_then, option_to_list, codes, slice_get}
use Rattle.std.specs.Option.{option_map_or}
use Rattle.ux_command_line.specs.declared.command.OptionName.{OptionName}
use Rattle.ux_command_line.specs.Settings.{set}
use Rattle.ux_command_line.specs.Tables.{ALL_OPTIONS, name_of, is_flag, has_value}
use Rattle.ux_command_line.specs.Arguments.{Given, NOTHING, is_empty, with_setting}
use Rattle.ux_command_line.specs.Requests.{Values, values_of}
use Rattle.ux_command_line.specs.Matching.{FILES, Found, is_right, is_set, value_by, values_found, read_in}
use Rattle.ux_command_line.proofs.BoolLemmas.{not_some}
use Rattle.ux_command_line.proofs.OptionLemmas.{put-same, told, values_of-filled, values_of-repeated}
use Rattle.ux_command_line.proofs.GivenLemmas.{with_all, with_all-name, with_all-setting}
use Rattle.ux_command_line.proofs.Uses.{Use, named, flagged, valued}
use Rattle.ux_command_line.proofs.UseLemmas.{given_by}
use Rattle.ux_command_line.proofs.FlagLemmas.{flag_made, value_made, no_value_made}
use Rattle.ux_command_line.proofs.TableLemmas.{all_pass, own_name}
use Rattle.ux_command_line.proofs.RowLemmas.{put}
use Rattle.ux_command_line.proofs.TakenLemmas.{AreRight, found_past}
use Rattle.ux_command_line.proofs.FoundSteps.{HasIfGiven, IsSetIfGiven, IsFoundBy, name_more, value_more, flag_more}
use Rattle.ux_command_line.proofs.WrongValues.{wrong_past}

-- what is given comes to values of options and names of files
abbrev pub read_of : Given → Option (Values × List (List ℕ))
read_of given = option_map (λ values. (values, given.files)) (values_of given.settings)

-- AT THE END

right_value : (option : OptionName) (values : Option (List (List ℕ))) →
    HasIfGiven option values → option_map_or (has_value option)
    (option_and_then (λ v. slice_get v 0) values) true ≡ true
right_value option None has = refl
right_value option (Some []) has = refl
right_value option (Some (value ∷ values)) has = has refl

set_value : (first : Option (List ℕ)) → is_set first ≡ true → is_some (value_by true first) ≡ true
set_value first set = rw set refl

module _ (first : Given) (found : Found) (is : IsFoundBy first found) where
  right : (option : OptionName) → is_right found option ≡ true
  right option = by_case (is_flag option) refl
    where
      by_case : (flag : Bool) → is_flag option ≡ flag → is_right found option ≡ true
      by_case true e = rw e refl
      by_case false e =
          rw e (right_value option (found (name_of option)) (is.valued option e))

  read_at_end : read_of first ≡ read_in found
  read_at_end = rw (all_pass (is_right found) right ALL_OPTIONS)
      (rw (values_of-filled first.settings (values_found found) is.filled, is.files) refl)

  -- an option that is found has a value
  told_value : (option : OptionName) → is_flag option ≡ false →
      (values : Option (List (List ℕ))) → HasIfGiven option values →
      is_some values ≡ true → IsSome (told option values)
  told_value option kind None has some = let wrong : false ≡ true = some in cc
  told_value option kind (Some []) has some = let wrong : false ≡ true = has refl in cc
  told_value option kind (Some (value ∷ values)) has some =
      ap (λ flag. is_some (value_by flag (Some value))) kind

  told_flag : (option : OptionName) → is_flag option ≡ true →
      (values : Option (List (List ℕ))) → IsSetIfGiven values →
      is_some values ≡ true → IsSome (told option values)
  told_flag option kind None set some = let wrong : false ≡ true = some in cc
  told_flag option kind (Some []) set some = let wrong : false ≡ true = set refl in cc
  told_flag option kind (Some (value ∷ values)) set some =
      ap (λ flag. is_some (value_by flag (Some value))) kind
      ∙ set_value (Some value) (set refl)

  -- so it can't be given once more
  repeated : (option : OptionName) (value : List ℕ) → IsSome (values_found found option) →
      (later : Option Given) → option_and_then read_of
      (with_all first (option_map (with_setting (set option value)) later)) ≡ None
  repeated option value again None = refl
  repeated option value again (Some later) =
      rw (values_of-repeated first.settings later.settings (values_found found) is.filled option
      value again) refl

read_nothing : (first : Given) → option_and_then read_of (with_all first (Some NOTHING))
    ≡ read_of first
read_nothing first = rw (append-nil first.settings, append-nil first.files) refl

-- what the uses say is what is found after them
pub read-uses : (uses : List Use) → AreRight uses → (first : Given) (found : Found) →
    IsFoundBy first found → option_and_then read_of (with_all first (given_by uses))
    ≡ option_and_then read_in (found_past found uses)
read-uses [] right first found is = read_nothing first ∙ read_at_end first found is
read-uses (named text ∷ uses) right first found is = by_case (is_empty text) refl
    (read-uses uses right.1 (record first { files = first.files ++ text ∷ [] })
    (put FILES (text ∷ []) found) (name_more first found is text))
  where
    by_case : (b : Bool) → is_empty text ≡ b →
        option_and_then read_of
        (with_all (record first { files = first.files ++ text ∷ [] }) (given_by uses))
        ≡ option_and_then read_in (found_past (put FILES (text ∷ []) found) uses) →
        option_and_then read_of (with_all first (given_by (named text ∷ uses)))
        ≡ option_and_then read_in (found_past found (named text ∷ uses))
    by_case true e later = rw e refl
    by_case false e later =
        rw e (ap (option_and_then read_of) (with_all-name first text (given_by uses)) ∙ later)
read-uses (flagged option ∷ uses) right first found is =
    by_case (is_some (found (name_of option))) refl
    (λ none. read-uses uses right.1
    (record first { settings = first.settings ++ set option [] ∷ [] })
    (put (name_of option) (codes "true" ∷ []) found)
    (flag_more first found is option none right.0))
  where
    by_case : (b : Bool) →
        is_some (found (name_of option)) ≡ b → (found (name_of option) ≡ None →
        option_and_then read_of
        (with_all (record first { settings = first.settings ++ set option [] ∷ [] })
        (given_by uses))
        ≡ option_and_then read_in
        (found_past (put (name_of option) (codes "true" ∷ []) found) uses)) →
        option_and_then read_of (with_all first (given_by (flagged option ∷ uses)))
        ≡ option_and_then read_in (found_past found (flagged option ∷ uses))
    by_case true e later = rw (flag_made option right.0, e) (repeated first found is option []
        (told_flag first found is option right.0 (found (name_of option))
        (is.flagged option right.0) e) (given_by uses))
    by_case false e later = rw (flag_made option right.0, e)
        (ap (option_and_then read_of) (with_all-setting first (set option []) (given_by uses))
        ∙ later (not_some (found (name_of option)) e))
read-uses (valued option value ∷ uses) right first found is =
    by_value (has_value option value) refl
    (λ none has. read-uses uses right.1
    (record first { settings = first.settings ++ set option value ∷ [] })
    (put (name_of option) (value ∷ []) found)
    (value_more first found is option none value right.0 has))
  where
    by_case : has_value option value ≡ true → (b : Bool) →
        is_some (found (name_of option)) ≡ b → (found (name_of option) ≡ None →
        option_and_then read_of
        (with_all (record first { settings = first.settings ++ set option value ∷ [] })
        (given_by uses))
        ≡ option_and_then read_in (found_past (put (name_of option) (value ∷ []) found) uses)) →
        option_and_then read_of (with_all first (given_by (valued option value ∷ uses)))
        ≡ option_and_then read_in (found_past found (valued option value ∷ uses))
    by_case has true e later = rw (value_made option value has, e)
        (repeated first found is option value
        (told_value first found is option right.0 (found (name_of option))
        (is.valued option right.0) e) (given_by uses))
    by_case has false e later = rw (value_made option value has, e)
        (ap (option_and_then read_of) (with_all-setting first (set option value) (given_by uses))
        ∙ later (not_some (found (name_of option)) e))

    wrong : has_value option value ≡ false → (b : Bool) → is_some (found (name_of option)) ≡ b →
        option_and_then read_of (with_all first (given_by (valued option value ∷ uses)))
        ≡ option_and_then read_in (found_past found (valued option value ∷ uses))
    wrong has true e = rw (no_value_made option value has, e) refl
    wrong has false e = rw (no_value_made option value has, e) (sym (wrong_past option right.0 uses
        (put (name_of option) (value ∷ []) found) (rw (put-same (name_of option) (value ∷ []) found
        (own_name option) (not_some (found (name_of option)) e)) (rw (right.0, has) refl))))

    by_value : (b : Bool) → has_value option value ≡ b →
        (found (name_of option) ≡ None → has_value option value ≡ true →
        option_and_then read_of
        (with_all (record first { settings = first.settings ++ set option value ∷ [] })
        (given_by uses))
        ≡ option_and_then read_in (found_past (put (name_of option) (value ∷ []) found) uses)) →
        option_and_then read_of (with_all first (given_by (valued option value ∷ uses)))
        ≡ option_and_then read_in (found_past found (valued option value ∷ uses))
    by_value false has later = wrong has (is_some (found (name_of option))) refl
    by_value true has later = by_case has (is_some (found (name_of option))) refl
        (λ none. later none has)

nothing_found : IsFoundBy NOTHING (λ id. None)
nothing_found = record {
  filled = λ option. nothing_told (is_flag option);
  files = refl;
  valued = λ option kind given. let wrong : false ≡ true = given in cc;
  flagged = λ option kind given. let wrong : false ≡ true = given in cc;
}
  where
    nothing_told : (flag : Bool) → [] ≡ option_to_list (value_by flag None)
    nothing_told true = refl
    nothing_told false = refl

with_nothing : (given : Option Given) → with_all NOTHING given ≡ given
with_nothing None = refl
with_nothing (Some given) = refl

pub read_by_uses : (uses : List Use) → AreRight uses →
    option_and_then read_of (given_by uses)
    ≡ option_and_then read_in (found_past (λ id. None) uses)
read_by_uses uses right = ap (option_and_then read_of) (sym (with_nothing (given_by uses)))
    ∙ read-uses uses right NOTHING (λ id. None) nothing_found
