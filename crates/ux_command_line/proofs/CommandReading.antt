-- What the words after a command give is what clap finds in them, where it takes them; and where
-- it doesn't, they give nothing.
use Rattle.std.proofs.Common.{◌≡◌, ◌∙◌, refl, sym, ap, ap₂, Bool, true, false, List, [], ◌∷◌, map, fold, Option, Some, None, String, string_bytes, option_map, option_and_then, if◌then◌else◌}
use Rattle.std.proofs.lemmas.Str.{IsUtf8-string_bytes}
use Rattle.clap.specs.Kinds.{Kinds, or_else}
use Rattle.clap.specs.Faults.{level_fault, settle_fault, walk_fault, fault_of}
use Rattle.clap.specs.Walk.{Row, Text, settled, walked, idle, nothing_held, with_default}
use Rattle.clap.specs.Simple.{matches_of}
use Rattle.clap.proofs.FaultLemmas.{leaf_fault}
use Rattle.ux_command_line.specs.declared.command.Command.{Command}
use Rattle.ux_command_line.specs.declared.command.OptionName.{OptionName}
use Rattle.ux_command_line.specs.Matching.{BARE, app_with, found_in, read_in, read_by}
use Rattle.ux_command_line.specs.Tables.{options_of}
use Rattle.ux_command_line.proofs.Uses.{Use, rules_with, is_none, rows_past, anew, uses_of}
use Rattle.ux_command_line.proofs.UseLemmas.{given_by}
use Rattle.ux_command_line.proofs.ReadingLemmas.{given_of-uses}
use Rattle.ux_command_line.proofs.TakenLemmas.{found-past}
use Rattle.ux_command_line.proofs.RightUses.{AreRightIfSome, rights_of}
use Rattle.ux_command_line.proofs.FoundLemmas.{read_of, read_by_uses}
use Rattle.ux_command_line.proofs.Walks.{shape_with, walk_at, rows_at_end}
use Rattle.ux_command_line.proofs.WalkUses.{AreUtf8, rows_of_words}
use Rattle.ux_command_line.proofs.CommandLemmas.{rules_more, app_built, none_required, defaults_pass, read-defaults, rows_at_end-is}

or_else-nil : (kinds : Kinds) → or_else kinds [] ≡ kinds
or_else-nil [] = refl
or_else-nil (kind ∷ kinds) = refl

module _ (options : List OptionName) (words : List Text) where
  abbrev end : List Row
  end = (settled (rules_with options)
      (fold (walked (rules_with options) []) (walk_at [] None idle false) words).held).rows

  abbrev fault : Kinds
  fault = or_else (walk_fault (shape_with options) [] (walk_at [] None idle false) words)
      (settle_fault (rules_with options) false
      (fold (walked (rules_with options) []) (walk_at [] None idle false) words).held)

  level-is : level_fault (shape_with options) [] nothing_held words false [] ≡ fault
  level-is = rw (
    defaults_pass options end,
    none_required options (fold with_default end (rules_with options)),
  )
      (rw (or_else-nil (settle_fault (rules_with options) false
      (fold (walked (rules_with options) []) (walk_at [] None idle false) words).held)) refl)

  fault-is : fault_of (app_with options) words ≡ fault
  fault-is = rw (app_built options, rules_more options BARE)
      (leaf_fault (record { top = shape_with options; subs = [] }) nothing_held words refl
      ∙ level-is)

  read-matches : read_in (found_in (matches_of (app_with options) words)) ≡ read_in (found_in end)
  read-matches = rw (app_built options, rules_more options BARE) (read-defaults options end)

-- all of the uses
read-rows : (uses : Option (List Use)) → AreRightIfSome uses →
    option_and_then read_of (option_and_then given_by uses)
    ≡ option_and_then (λ rows. read_in (found_in rows)) (option_and_then (rows_past []) uses)
read-rows None right = refl
read-rows (Some uses) right = read_by_uses uses right
    ∙ (ap (option_and_then read_in) (sym (found-past uses right [])) ∙ by_case (rows_past [] uses))
  where
    by_case : (rows : Option (List Row)) → option_and_then read_in (option_map found_in rows)
        ≡ option_and_then (λ rows. read_in (found_in rows)) rows
    by_case None = refl
    by_case (Some rows) = refl

module _ (command : Command) (words : List Text) (utf8 : AreUtf8 words) where
  read_by-end : read_by command words
      ≡ option_and_then (λ rows. read_in (found_in rows))
      (rows_at_end (options_of command) (walk_at [] None idle false) words)
  read_by-end = ap (option_and_then read_of) (given_of-uses command words)
      ∙ (read-rows (uses_of (options_of command) anew words)
      (rights_of (options_of command) anew words tt)
      ∙ ap (option_and_then (λ rows. read_in (found_in rows)))
      (sym (rows_of_words (options_of command) words utf8)))

  by_end : (b : Bool) (rows : List Row) →
      option_and_then (λ rows. read_in (found_in rows)) (if b then Some rows else None)
      ≡ (if b then read_in (found_in rows) else None)
  by_end true rows = refl
  by_end false rows = refl

  -- what the words give is what clap finds, where it takes them
  pub read_by-matches : read_by command words
      ≡ (if is_none (fault_of (app_with (options_of command)) words)
      then read_in (found_in (matches_of (app_with (options_of command)) words)) else None)
  read_by-matches = read_by-end
      ∙ (ap (option_and_then (λ rows. read_in (found_in rows)))
      (rows_at_end-is (options_of command) words (walk_at [] None idle false))
      ∙ (by_end (is_none (fault (options_of command) words)) (end (options_of command) words)
      ∙ ap₂ (λ kinds read. if is_none kinds then read else None)
      (sym (fault-is (options_of command) words))
      (sym (read-matches (options_of command) words))))

-- the words of a program are text
pub AreUtf8-strings : {Z : Type 0} (words : List (String Z)) → AreUtf8 (map string_bytes words)
AreUtf8-strings [] = tt
AreUtf8-strings (word ∷ words) = (IsUtf8-string_bytes word, AreUtf8-strings words)
