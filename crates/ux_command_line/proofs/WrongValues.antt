-- A value that is none of its option's is found at the end, and no options are read.
use Rattle.std.proofs.Common.{◌≡◌, refl, subst, ℕ, Bool, true, false, not, ◌||◌, List, [], ◌∷◌, Option, Some, None, is_some, option_and_then, bytes_eq, codes, slice_get}
use Rattle.std.specs.Option.{option_map_or}
use Rattle.ux_command_line.specs.declared.command.OptionName.{OptionName}
use Rattle.ux_command_line.specs.Matching.{FILES, Found, is_right, read_in}
use Rattle.ux_command_line.specs.Tables.{name_of, is_flag, has_value}
use Rattle.ux_command_line.proofs.OptionLemmas.{put-other}
use Rattle.ux_command_line.proofs.RowLemmas.{put}
use Rattle.ux_command_line.proofs.TableLemmas.{files_other, same_option, some_fails}
use Rattle.ux_command_line.proofs.TakenLemmas.{is_free, with_use, found_past}
use Rattle.ux_command_line.proofs.Uses.{Use, named, flagged, valued}

given_if_wrong : (option : OptionName) → is_flag option ≡ false →
    (values : Option (List (List ℕ))) → (is_flag option
    || option_map_or (has_value option) (option_and_then (λ v. slice_get v 0) values) true)
    ≡ false → is_some values ≡ true
given_if_wrong option kind None wrong = let never : true ≡ false = rw kind at wrong in cc
given_if_wrong option kind (Some values) wrong = refl

wrong_read : (found : Found) (option : OptionName) → is_right found option ≡ false →
    read_in found ≡ None
wrong_read found option wrong = rw (some_fails (is_right found) option wrong) refl

module _ (option : OptionName) (kind : is_flag option ≡ false) where
  -- an option that is given isn't given again
  stays : (found : Found) (other : OptionName) (values : List (List ℕ)) →
      is_some (found (name_of option)) ≡ true → not (is_some (found (name_of other))) ≡ true →
      put (name_of other) values found (name_of option) ≡ found (name_of option)
  stays found other values given free = by_case (bytes_eq (name_of other) (name_of option)) refl
    where
      by_case : (b : Bool) → bytes_eq (name_of other) (name_of option) ≡ b →
          put (name_of other) values found (name_of option) ≡ found (name_of option)
      by_case false e = put-other (name_of other) values found (name_of option) e
      by_case true e =
          let one : not true ≡ true = subst (λ b. not b ≡ true) given
          (subst (λ (o : OptionName). not (is_some (found (name_of o))) ≡ true)
          (same_option other option e) free) in
          let wrong : false ≡ true = one in cc

  stays_with : (found : Found) (first : Use) → is_some (found (name_of option)) ≡ true →
      is_free found first ≡ true → with_use found first (name_of option) ≡ found (name_of option)
  stays_with found (named text) given free =
      put-other FILES (text ∷ []) found (name_of option) (files_other option)
  stays_with found (flagged other) given free =
      stays found other (codes "true" ∷ []) given free
  stays_with found (valued other value) given free = stays found other (value ∷ []) given free

  pub wrong_past : (uses : List Use) (found : Found) → is_right found option ≡ false →
      option_and_then read_in (found_past found uses) ≡ None
  wrong_past [] found wrong = wrong_read found option wrong
  wrong_past (first ∷ uses) found wrong =
      by_case (is_free found first) refl (wrong_past uses (with_use found first))
    where
      by_case : (b : Bool) → is_free found first ≡ b →
          (is_right (with_use found first) option ≡ false →
          option_and_then read_in (found_past (with_use found first) uses) ≡ None) →
          option_and_then read_in (found_past found (first ∷ uses)) ≡ None
      by_case false e later = rw e refl
      by_case true e later = rw e (later (rw (stays_with found first
          (given_if_wrong option kind (found (name_of option)) wrong) e) wrong))
