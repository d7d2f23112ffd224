-- What clap's walk makes of a word after an option that waits for its value.
use Rattle.std.proofs.Common.{◌≡◌, refl, ap, Bool, true, false, List, [], ◌∷◌, Option, Some, None, bytes_eq}
use Rattle.clap.specs.Lexer.{long_of, short_of}
use Rattle.clap.specs.Kinds.{Kinds, or_else}
use Rattle.clap.specs.Faults.{settle_fault, use_fault}
use Rattle.clap.specs.Walk.{Row, Text, Waiting, idle, arg_by_id, is_pending, most_values}
use Rattle.ux_command_line.specs.declared.command.OptionName.{OptionName}
use Rattle.ux_command_line.proofs.BoolLemmas.{and_false}
use Rattle.ux_command_line.proofs.Uses.{built_as, built_option, built_files, rules_with, option_with, valued, is_none}
use Rattle.ux_command_line.proofs.RuleLemmas.{files_by_index, option_by_long, takes_value, takes_none}
use Rattle.ux_command_line.proofs.TableLemmas.{own_name}
use Rattle.ux_command_line.proofs.Walks.{held_at, walk_at, awaiting_at, pending_of, passes, walk_past, rows_at_end}
use Rattle.ux_command_line.proofs.WalkSteps.{unknown_fault, refused_fault}
use Rattle.ux_command_line.specs.Tables.{name_of, is_flag}

not_first : (first second : Kinds) → is_none first ≡ false →
    is_none (or_else first second) ≡ false
not_first [] second is = let wrong : true ≡ false = is in cc
not_first (kind ∷ kinds) second is = refl

not_both : (first second third : Kinds) → is_none first ≡ false →
    is_none (or_else (or_else first second) third) ≡ false
not_both [] second third is = let wrong : true ≡ false = is in cc
not_both (kind ∷ kinds) second third is = refl

-- an option wants one value
too_few : (option : OptionName) → is_flag option ≡ false → (rows : List Row) →
    is_none (use_fault false (built_option option) [] rows) ≡ false
too_few option kind rows =
    ap (λ flag. is_none (use_fault false (built_as flag (name_of option)) [] rows)) kind

one_value : (option : OptionName) → is_flag option ≡ false →
    most_values (built_option option) ≡ 1
one_value option kind = ap (λ flag. most_values (built_as flag (name_of option))) kind

module _ (options : List OptionName) where
  -- an option that waits for its value
  module _ (option : OptionName) (kind : is_flag option ≡ false)
      (knows : arg_by_id (rules_with options) (name_of option) ≡ Some (built_option option))
      (rows : List Row) where
    pub unsettled :
        is_none (settle_fault (rules_with options) false (held_at rows (Some (name_of option, []))))
        ≡ false
    unsettled = rw knows (too_few option kind rows)

    module _ (text : Text) (is_word : bytes_eq text (45 ∷ 45 ∷ []) ≡ false) where
      pub value_fault : long_of text ≡ None → short_of text ≡ None →
          passes options (awaiting_at rows option) text ≡ true
      value_fault not_long not_short = rw (is_word, not_long, not_short) refl

      pub value_next : long_of text ≡ None → short_of text ≡ None →
          walk_past options (awaiting_at rows option) text
          ≡ walk_at rows (pending_of (Some (valued option text))) idle false
      value_next not_long not_short = rw (is_word, not_long, not_short)
          (rw knows (rw (own_name option) (rw (one_value option kind) refl)))

      option_met : (name : Text) (other : OptionName) → option_with options name ≡ Some other →
          (b : Bool) → is_flag other ≡ b → (given : Option Text) →
          long_of text ≡ Some (name, given) →
          passes options (awaiting_at rows option) text ≡ false
      option_met name other found true flag (Some given) long =
          refused_fault options text is_word name rows (Some (name_of option, []))
          (Waiting.option (name_of option)) other given long found flag
      option_met name other found true flag None long = rw (is_word, long)
          (rw (option_by_long options name) (rw found (rw (takes_none other flag)
          (not_both (settle_fault (rules_with options) false
          (held_at rows (Some (name_of option, [])))) _ _ unsettled))))
      option_met name other found false flag (Some given) long = rw (is_word, long)
          (rw (option_by_long options name) (rw found (rw (takes_value other flag)
          (not_both (settle_fault (rules_with options) false
          (held_at rows (Some (name_of option, [])))) _ _ unsettled))))
      option_met name other found false flag None long = rw (is_word, long)
          (rw (option_by_long options name) (rw found (rw (takes_value other flag)
          (not_first (settle_fault (rules_with options) false
          (held_at rows (Some (name_of option, [])))) _ unsettled))))

      -- an option is no value
      pub option_fault : (name : Text) (given : Option Text) → long_of text ≡ Some (name, given) →
          passes options (awaiting_at rows option) text ≡ false
      option_fault name given is_long = by_case (option_with options name) refl
        where
          by_case : (found : Option OptionName) → option_with options name ≡ found →
              passes options (awaiting_at rows option) text ≡ false
          by_case None unknown = unknown_fault options text is_word name rows
              (Some (name_of option, [])) (Waiting.option (name_of option)) given is_long unknown
          by_case (Some other) found =
              option_met name other found (is_flag other) refl given is_long

    -- nor is `--`, or a name after it
    pub unsettled_end : (waiting : Waiting) (words : List Text) →
        rows_at_end options (walk_at rows (Some (name_of option, [])) waiting true) words ≡ None
    unsettled_end waiting [] = rw unsettled refl
    unsettled_end waiting (text ∷ words) = rw (files_by_index options)
        (rw (and_false (is_pending built_files (Some (name_of option, [])))) (rw unsettled refl))
