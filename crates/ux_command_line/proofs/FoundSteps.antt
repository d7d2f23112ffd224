-- What is found after one more use.
use Rattle.std.proofs.Common.{◌≡◌, refl, sym, ap, subst, ℕ, true, false, List, [], ◌∷◌, ◌++◌, Option, Some, is_some, option_and_then, codes, slice_get, None}
use Rattle.std.specs.Option.{option_map_or}
use Rattle.ux_command_line.specs.declared.command.OptionName.{OptionName}
use Rattle.ux_command_line.specs.Arguments.{Given}
use Rattle.ux_command_line.specs.Matching.{FILES, Found, files_in, is_set, value_by, values_found}
use Rattle.ux_command_line.specs.Settings.{set}
use Rattle.ux_command_line.specs.Tables.{name_of, is_flag, has_value}
use Rattle.ux_command_line.proofs.BoolLemmas.{differ}
use Rattle.ux_command_line.proofs.OptionLemmas.{AreFilledBy, AreFilledBy-more, holds_after, put-other}
use Rattle.ux_command_line.proofs.RowLemmas.{put}
use Rattle.ux_command_line.proofs.TableLemmas.{files_other, not_files}

-- an option that is given has a value of its own, and a flag is set
abbrev pub HasIfGiven : OptionName → Option (List (List ℕ)) → Type 0
HasIfGiven option values = is_some values ≡ true → option_map_or (has_value option)
    (option_and_then (λ v. slice_get v 0) values) false ≡ true

abbrev pub IsSetIfGiven : Option (List (List ℕ)) → Type 0
IsSetIfGiven values =
    is_some values ≡ true → is_set (option_and_then (λ v. slice_get v 0) values) ≡ true

-- what is found is what is given first
pub record IsFoundBy (first : Given) (found : Found) : Type 0 where
  pub filled : AreFilledBy first.settings (values_found found)
  pub files : files_in found ≡ first.files
  pub valued : (option : OptionName) → is_flag option ≡ false →
      HasIfGiven option (found (name_of option))
  pub flagged : (option : OptionName) → is_flag option ≡ true →
      IsSetIfGiven (found (name_of option))

module _ (first : Given) (found : Found) (is : IsFoundBy first found) where
  -- a name
  pub name_more : (text : List ℕ) → IsFoundBy (record first { files = first.files ++ text ∷ [] })
      (put FILES (text ∷ []) found)
  name_more text = record {
    filled = λ option. rw (files_other option) (is.filled option);
    files = ap (λ l. l ++ text ∷ []) is.files;
    valued = λ option kind. subst (HasIfGiven option)
        (sym (put-other FILES (text ∷ []) found (name_of option) (files_other option)))
        (is.valued option kind);
    flagged = λ option kind. subst IsSetIfGiven
        (sym (put-other FILES (text ∷ []) found (name_of option) (files_other option)))
        (is.flagged option kind);
  }

  module _ (option : OptionName) (none : found (name_of option) ≡ None) where
    files_kept : (values : List (List ℕ)) →
        files_in (put (name_of option) values found) ≡ first.files
    files_kept values = rw (not_files option) is.files

    pub value_more : (value : List ℕ) → is_flag option ≡ false → has_value option value ≡ true →
        IsFoundBy (record first { settings = first.settings ++ set option value ∷ [] })
        (put (name_of option) (value ∷ []) found)
    value_more value kind has = record {
      filled = AreFilledBy-more found option none first.settings value (value ∷ []) is.filled
          (ap (λ flag. value_by flag (Some value)) kind);
      files = files_kept (value ∷ []);
      valued = λ other other_kind. holds_after found option none HasIfGiven (value ∷ [])
          (λ _. has) other (is.valued other other_kind);
      flagged = λ other other_kind. holds_after found option none
          (λ o values. is_flag o ≡ true → IsSetIfGiven values) (value ∷ [])
          (λ flag. absurd (differ _ flag kind)) other (is.flagged other) other_kind;
    }

    pub flag_more : is_flag option ≡ true →
        IsFoundBy (record first { settings = first.settings ++ set option [] ∷ [] })
        (put (name_of option) (codes "true" ∷ []) found)
    flag_more kind = record {
      filled = AreFilledBy-more found option none first.settings [] (codes "true" ∷ []) is.filled
          (ap (λ flag. value_by flag (Some (codes "true"))) kind);
      files = files_kept (codes "true" ∷ []);
      valued = λ other other_kind. holds_after found option none
          (λ o values. is_flag o ≡ false → HasIfGiven o values) (codes "true" ∷ [])
          (λ flag. absurd (differ _ kind flag)) other (is.valued other) other_kind;
      flagged = λ other other_kind. holds_after found option none (λ o values. IsSetIfGiven values)
          (codes "true" ∷ []) (λ _. refl) other (is.flagged other other_kind);
    }
