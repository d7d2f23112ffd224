-- When clap takes a use, and what is found after it.
use Rattle.std.proofs.Common.{◌≡◌, ◌∙◌, refl, ap, ℕ, Bool, true, false, not, ◌&&◌, List, [], ◌∷◌, length, Option, Some, None, is_some, option_map, nat_lt, codes, if◌then◌else◌}
use Rattle.std.proofs.lemmas.Bool.Decides.{nat_tests}
use Rattle.std.proofs.Common.{arith, suc}
use Rattle.ux_command_line.proofs.BoolLemmas.{not_empty, not_false}
use Rattle.clap.specs.Kinds.{or_else}
use Rattle.clap.specs.Faults.{use_fault}
use Rattle.clap.specs.Walk.{Row, Text, has_row, used, with_values, without}
use Rattle.clap.specs.declared.builder.value_parser.Reading.TheVariants.{AsWritten}
use Rattle.clap.specs.declared.parser.matches.ValueSource.TheVariants.{CommandLine}
use Rattle.clap.specs.declared.error.kind.ErrorKind.{ErrorKind}
use Rattle.ux_command_line.specs.declared.command.OptionName.{OptionName}
use Rattle.ux_command_line.specs.Arguments.{is_empty}
use Rattle.ux_command_line.specs.Matching.{FILES, Found, found_in}
use Rattle.ux_command_line.proofs.Uses.{built_as, Use, named, flagged, valued, is_none, is_taken, rows_with, rows_past}
use Rattle.ux_command_line.proofs.RowLemmas.{put, has_row-found, without-none, found-used}
use Rattle.ux_command_line.specs.Tables.{name_of, is_flag}

-- a flag is flagged, and an option has a value
abbrev pub IsRight : Use → Type 0
IsRight (named text) = Unit
IsRight (flagged option) = is_flag option ≡ true
IsRight (valued option value) = is_flag option ≡ false

abbrev pub AreRight : List Use → Type 0
AreRight [] = Unit
AreRight (first ∷ uses) = IsRight first × AreRight uses

-- the use is taken, after what is found
abbrev pub is_free : Found → Use → Bool
is_free found (named text) = not (is_empty text)
is_free found (flagged option) = not (is_some (found (name_of option)))
is_free found (valued option value) = not (is_some (found (name_of option)))

abbrev pub with_use : Found → Use → Found
with_use found (named text) = put FILES (text ∷ []) found
with_use found (flagged option) = put (name_of option) (codes "true" ∷ []) found
with_use found (valued option value) = put (name_of option) (value ∷ []) found

abbrev pub found_past : Found → List Use → Option Found
found_past found [] = Some found
found_past found (first ∷ uses) =
    if is_free found first then found_past (with_use found first) uses else None

-- ONE USE

once_more : (given : Bool) (kind : ErrorKind) →
    is_none (or_else (if given && true then kind ∷ [] else []) []) ≡ not given
once_more true kind = refl
once_more false kind = refl

not_row : (rows : List Row) (id : Text) → not (has_row id rows) ≡ not (is_some (found_in rows id))
not_row rows id = ap not (has_row-found id rows)

taken_value : (rows : List Row) (option : OptionName) (value : Text) → is_flag option ≡ false →
    is_taken rows (valued option value) ≡ not (has_row (name_of option) rows)
taken_value rows option value kind =
    ap (λ flag. is_none (use_fault false (built_as flag (name_of option)) (value ∷ []) rows)) kind
    ∙ once_more (has_row (name_of option) rows) _

taken_flag : (rows : List Row) (option : OptionName) → is_flag option ≡ true →
    is_taken rows (flagged option) ≡ not (has_row (name_of option) rows)
taken_flag rows option kind =
    ap (λ flag. is_none (use_fault false (built_as flag (name_of option)) [] rows)) kind
    ∙ once_more (has_row (name_of option) rows) _

some_byte : (n : ℕ) → nat_lt 0 (suc n) ≡ true
some_byte n = grind (arith, nat_tests)

taken_name : (rows : List Row) (text : Text) →
    is_taken rows (named text) ≡ not (is_empty text)
taken_name rows [] = refl
taken_name rows (x ∷ xs) = rw (some_byte (length xs), not_empty (length xs)) refl

-- the use is taken where it is free
pub taken : (rows : List Row) (first : Use) → IsRight first →
    is_taken rows first ≡ is_free (found_in rows) first
taken rows (named text) right = taken_name rows text
taken rows (flagged option) right = taken_flag rows option right ∙ not_row rows (name_of option)
taken rows (valued option value) right =
    taken_value rows option value right ∙ not_row rows (name_of option)

-- a use under an id that has no row
replaced : (id : Text) (values : List Text) (rows : List Row) → has_row id rows ≡ false →
    found_in (with_values id AsWritten CommandLine values (without id rows))
    ≡ put id values (found_in rows)
replaced id values rows none =
    rw (without-none id rows none) (found-used id AsWritten CommandLine values rows)

valued_found : (rows : List Row) (option : OptionName) (value : Text) → is_flag option ≡ false →
    has_row (name_of option) rows ≡ false →
    found_in (rows_with rows (valued option value))
    ≡ put (name_of option) (value ∷ []) (found_in rows)
valued_found rows option value kind none =
    ap (λ flag. found_in (used (built_as flag (name_of option)) (value ∷ []) rows)) kind
    ∙ replaced (name_of option) (value ∷ []) rows none

flagged_found : (rows : List Row) (option : OptionName) → is_flag option ≡ true →
    has_row (name_of option) rows ≡ false →
    found_in (rows_with rows (flagged option))
    ≡ put (name_of option) (codes "true" ∷ []) (found_in rows)
flagged_found rows option kind none =
    ap (λ flag. found_in (used (built_as flag (name_of option)) [] rows)) kind
    ∙ replaced (name_of option) (codes "true" ∷ []) rows none

-- what is found after a use that is taken
pub found-taken : (rows : List Row) (first : Use) → IsRight first →
    is_free (found_in rows) first ≡ true →
    found_in (rows_with rows first) ≡ with_use (found_in rows) first
found-taken rows (named text) right free =
    found-used FILES AsWritten CommandLine (text ∷ []) rows
found-taken rows (flagged option) right free = flagged_found rows option right
    (not_false (has_row (name_of option) rows) (not_row rows (name_of option) ∙ free))
found-taken rows (valued option value) right free = valued_found rows option value right
    (not_false (has_row (name_of option) rows) (not_row rows (name_of option) ∙ free))

-- ALL USES

-- what is found after all uses, where clap takes them
pub found-past : (uses : List Use) → AreRight uses → (rows : List Row) →
    option_map found_in (rows_past rows uses) ≡ found_past (found_in rows) uses
found-past [] right rows = refl
found-past (first ∷ uses) right rows =
    by_case (is_free (found_in rows) first) refl (found-past uses right.1 (rows_with rows first))
  where
    by_case : (b : Bool) → is_free (found_in rows) first ≡ b →
        option_map found_in (rows_past (rows_with rows first) uses)
        ≡ found_past (found_in (rows_with rows first)) uses →
        option_map found_in (rows_past rows (first ∷ uses))
        ≡ found_past (found_in rows) (first ∷ uses)
    by_case false e later = rw (taken rows first right.0, e) refl
    by_case true e later = rw (taken rows first right.0, e)
        (later ∙ ap (λ f. found_past f uses) (found-taken rows first right.0 e))
