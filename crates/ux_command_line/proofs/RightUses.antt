-- The uses of words have a value where the option takes one, and none where it is a flag.
use Rattle.std.proofs.Common.{◌≡◌, refl, ℕ, Bool, true, false, List, [], ◌∷◌, Option, Some, None, bytes_eq, if◌then◌else◌}
use Rattle.clap.specs.Lexer.{long_of, short_of}
use Rattle.ux_command_line.specs.declared.command.OptionName.{OptionName}
use Rattle.ux_command_line.proofs.Uses.{option_with, Use, named, flagged, valued, in_front, Reading, anew, awaits, behind, uses_by_kind, uses_by_option, uses_by_form, uses_by_value, uses_unless_short, uses_of}
use Rattle.ux_command_line.proofs.TakenLemmas.{IsRight, AreRight}
use Rattle.ux_command_line.specs.Tables.{is_flag}

abbrev pub AreRightIfSome : Option (List Use) → Type 0
AreRightIfSome None = Unit
AreRightIfSome (Some uses) = AreRight uses

-- an option that awaits a value is no flag
abbrev pub IsRightReading : Reading → Type 0
IsRightReading anew = Unit
IsRightReading (awaits option) = is_flag option ≡ false
IsRightReading behind = Unit

right_front : (first : Use) → IsRight first → (uses : Option (List Use)) → AreRightIfSome uses →
    AreRightIfSome (in_front first uses)
right_front first right None rights = tt
right_front first right (Some uses) rights = (right, rights)

right_unless : (short : Option (List ℕ)) (uses : Option (List Use)) → AreRightIfSome uses →
    AreRightIfSome (uses_unless_short short uses)
right_unless None uses rights = rights
right_unless (Some flags) uses rights = tt

module _ (later : Reading → Option (List Use))
    (rights : (reading : Reading) → IsRightReading reading → AreRightIfSome (later reading)) where
  right_kind : (kind : Bool) (option : OptionName) → is_flag option ≡ kind →
      (value : Option (List ℕ)) → AreRightIfSome (uses_by_kind kind option value later)
  right_kind true option is (Some value) = tt
  right_kind true option is None = right_front (flagged option) is (later anew) (rights anew tt)
  right_kind false option is (Some value) =
      right_front (valued option value) is (later anew) (rights anew tt)
  right_kind false option is None = rights (awaits option) is

  right_option : (found : Option OptionName) (value : Option (List ℕ)) →
      AreRightIfSome (uses_by_option found value later)
  right_option None value = tt
  right_option (Some option) value = right_kind (is_flag option) option refl value

  right_form : (options : List OptionName) (text : List ℕ)
      (long : Option (List ℕ × Option (List ℕ))) →
      AreRightIfSome (uses_by_form options text long later)
  right_form options text None = right_unless (short_of text) _
      (right_front (named text) tt (later anew) (rights anew tt))
  right_form options text (Some long) = right_option (option_with options long.0) long.1

  right_word : (options : List OptionName) (text : List ℕ) (end : Bool) →
      AreRightIfSome (if end then later behind else uses_by_form options text (long_of text) later)
  right_word options text true = rights behind tt
  right_word options text false = right_form options text (long_of text)

right_value : (option : OptionName) → is_flag option ≡ false → (text : List ℕ)
    (long : Option (List ℕ × Option (List ℕ))) (uses : Option (List Use)) → AreRightIfSome uses →
    AreRightIfSome (uses_by_value option text long uses)
right_value option is text None uses rights = right_unless (short_of text) _
    (right_front (valued option text) is uses rights)
right_value option is text (Some long) uses rights = tt

right_value_word : (option : OptionName) → is_flag option ≡ false → (text : List ℕ) (end : Bool)
    (uses : Option (List Use)) → AreRightIfSome uses →
    AreRightIfSome (if end then None else uses_by_value option text (long_of text) uses)
right_value_word option is text true uses rights = tt
right_value_word option is text false uses rights =
    right_value option is text (long_of text) uses rights

pub rights_of : (options : List OptionName) (reading : Reading) (words : List (List ℕ)) →
    IsRightReading reading → AreRightIfSome (uses_of options reading words)
rights_of options anew [] is = tt
rights_of options (awaits option) [] is = tt
rights_of options behind [] is = tt
rights_of options anew (text ∷ words) is = right_word (λ reading. uses_of options reading words)
    (λ reading. rights_of options reading words) options text (bytes_eq text (45 ∷ 45 ∷ []))
rights_of options (awaits option) (text ∷ words) is = right_value_word option is text
    (bytes_eq text (45 ∷ 45 ∷ [])) (uses_of options anew words) (rights_of options anew words tt)
rights_of options behind (text ∷ words) is =
    right_front (named text) tt (uses_of options behind words) (rights_of options behind words tt)
