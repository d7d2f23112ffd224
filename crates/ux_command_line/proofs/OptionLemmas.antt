-- The values of options, one setting after the other.
use Rattle.std.proofs.Common.{arith, suc, ◌≡◌, ◌∙◌, ℕ, Bool, true, false, List, [], ◌∷◌, ◌++◌, refl, sym, ap, subst, append-nil, Option, Some, None, IsSome, option_and_then, option_to_list, length, nat_le, slice_get, bytes_eq}
use Rattle.std.proofs.lemmas.Bool.Decides.{nat_tests}
use Rattle.std.proofs.lemmas.List.Elements.{filter_map-append}
use Rattle.ux_command_line.specs.declared.command.OptionName.{OptionName}
use Rattle.ux_command_line.specs.Matching.{Found, value_by, values_found}
use Rattle.ux_command_line.specs.Requests.{Values, value_for, values_for, is_each_once, values_of}
use Rattle.ux_command_line.specs.Settings.{Setting, set}
use Rattle.ux_command_line.specs.Tables.{ALL_OPTIONS, name_of, is_flag}
use Rattle.ux_command_line.proofs.RowLemmas.{put}
use Rattle.ux_command_line.proofs.TableLemmas.{all_pass, own_name, same_option, some_fails}

-- what is found under an option's name tells its value
abbrev pub told : OptionName → Option (List (List ℕ)) → Option (List ℕ)
told option values = value_by (is_flag option) (option_and_then (λ v. slice_get v 0) values)

-- each option's value is what the settings give for it
abbrev pub AreFilledBy : List Setting → Values → Type 0
AreFilledBy settings values =
    (option : OptionName) → values_for settings option ≡ option_to_list (values option)

-- PUT UNDER A NAME

pub put-other : (name : List ℕ) (values : List (List ℕ)) (found : Found) (other : List ℕ) →
    bytes_eq name other ≡ false → put name values found other ≡ found other
put-other name values found other e = rw e refl

pub put-same : (name : List ℕ) (values : List (List ℕ)) (found : Found) →
    bytes_eq name name ≡ true → found name ≡ None → put name values found name ≡ Some values
put-same name values found e none = rw (e, none) refl

module _ (found : Found) (option : OptionName) (none : found (name_of option) ≡ None) where
  -- what holds of the values of each option holds after one more is given
  pub holds_after : (P : OptionName → Option (List (List ℕ)) → Type 0) (values : List (List ℕ)) →
      P option (Some values) → (other : OptionName) → P other (found (name_of other)) →
      P other (put (name_of option) values found (name_of other))
  holds_after P values here other before = by_case (bytes_eq (name_of option) (name_of other)) refl
    where
      by_case : (b : Bool) → bytes_eq (name_of option) (name_of other) ≡ b →
          P other (put (name_of option) values found (name_of other))
      by_case false e = subst (P other)
          (sym (put-other (name_of option) values found (name_of other) e)) before
      by_case true e =
          subst (λ (o : OptionName). P o (put (name_of option) values found (name_of o)))
          (same_option option other e) (subst (P option)
          (sym (put-same (name_of option) values found (own_name option) none)) here)

  -- values that tell what no value tells change nothing
  pub same_after : {T : Type 0} (tell : OptionName → Option (List (List ℕ)) → T)
      (values : List (List ℕ)) → tell option (Some values) ≡ tell option None →
      (other : OptionName) →
      tell other (put (name_of option) values found (name_of other))
      ≡ tell other (found (name_of other))
  same_after tell values alike other = by_case (bytes_eq (name_of option) (name_of other)) refl
    where
      by_case : (b : Bool) → bytes_eq (name_of option) (name_of other) ≡ b →
          tell other (put (name_of option) values found (name_of other))
          ≡ tell other (found (name_of other))
      by_case false e =
          ap (tell other) (put-other (name_of option) values found (name_of other) e)
      by_case true e = subst (λ (o : OptionName).
          tell o (put (name_of option) values found (name_of o)) ≡ tell o (found (name_of o)))
          (same_option option other e)
          (ap (tell option) (put-same (name_of option) values found (own_name option) none)
          ∙ (alike ∙ sym (ap (tell option) none)))

  -- ONE SETTING MORE

  none_told : (flag : Bool) → value_by flag None ≡ None
  none_told true = refl
  none_told false = refl

  -- the setting gives the value that is found under its name
  pub AreFilledBy-more : (settings : List Setting) (value : List ℕ) (values : List (List ℕ)) →
      AreFilledBy settings (values_found found) → told option (Some values) ≡ Some value →
      AreFilledBy (settings ++ set option value ∷ [])
      (values_found (put (name_of option) values found))
  AreFilledBy-more settings value values before is =
      λ other. filter_map-append (value_for other) settings (set option value ∷ [])
      ∙ by_case other (bytes_eq (name_of option) (name_of other)) refl
    where
      by_case : (other : OptionName) (b : Bool) →
          bytes_eq (name_of option) (name_of other) ≡ b → values_for settings other
          ++ values_for (set option value ∷ []) other
          ≡ option_to_list (told other (put (name_of option) values found (name_of other)))
      by_case other false e = rw (e, append-nil (values_for settings other)) (before other)
      by_case other true e = subst (λ (o : OptionName).
          values_for settings o ++ values_for (set option value ∷ []) o
          ≡ option_to_list (told o (put (name_of option) values found (name_of o))))
          (same_option option other e) (rw (
            before option,
            none,
            none_told (is_flag option),
            own_name option,
          )
          (ap option_to_list (sym is)))

-- ONCE

one_place : (value : Option (List ℕ)) → nat_le (length (option_to_list value)) 1 ≡ true
one_place None = refl
one_place (Some value) = refl

placed : (value : Option (List ℕ)) → slice_get (option_to_list value) 0 ≡ value
placed None = refl
placed (Some value) = refl

-- values that were filled by all settings are theirs
pub values_of-filled : (settings : List Setting) (values : Values) → AreFilledBy settings values →
    values_of settings ≡ Some values
values_of-filled settings values filled =
    let once : is_each_once settings ≡ true =
    all_pass (λ option. nat_le (length (values_for settings option)) 1)
    (λ option. ap (λ l. nat_le (length l) 1) (filled option) ∙ one_place (values option))
    ALL_OPTIONS in
    rw once (ap (λ (v : Values). Some v)
    (λ i option. (ap (λ l. slice_get l 0) (filled option) ∙ placed (values option)) i))

-- TWICE

two_or_more : (n : ℕ) → nat_le (suc (suc n)) 1 ≡ false
two_or_more n = grind (arith, nat_tests)

-- an option that has a value is given twice, once a setting gives it again
pub values_of-repeated : (settings later : List Setting) (values : Values) →
    AreFilledBy settings values → (option : OptionName) (value : List ℕ) →
    IsSome (values option) → values_of (settings ++ set option value ∷ later) ≡ None
values_of-repeated settings later values filled option value some =
    rw (some_fails (λ o. nat_le (length (values_for (settings ++ set option value ∷ later) o)) 1)
    option (twice (values option) (filled option) some)) refl
  where
    twice : (place : Option (List ℕ)) → values_for settings option ≡ option_to_list place →
        IsSome place →
        nat_le (length (values_for (settings ++ set option value ∷ later) option)) 1 ≡ false
    twice None is some = let wrong : false ≡ true = some in cc
    twice (Some x) is some =
        rw (filter_map-append (value_for option) settings (set option value ∷ later), is)
        (rw (own_name option) (two_or_more (length (values_for later option))))
