-- What clap's walk makes of a word: a name, an option, `-x` or `--`.
use Rattle.std.proofs.Common.{◌≡◌, refl, Bool, true, false, ◌&&◌, List, [], ◌∷◌, Option, Some, None, bytes_eq}
use Rattle.clap.specs.Lexer.{long_of, short_of}
use Rattle.clap.specs.Kinds.{Kinds, or_else}
use Rattle.clap.specs.Faults.{settle_fault, use_fault, flags_fault}
use Rattle.clap.specs.Walk.{Row, Text, Waiting, idle, positional, is_pending}
use Rattle.ux_command_line.specs.declared.command.OptionName.{OptionName}
use Rattle.ux_command_line.proofs.BoolLemmas.{and_false}
use Rattle.ux_command_line.proofs.Uses.{built_option, built_files, rules_with, option_with, Use, named, flagged, valued, is_none, is_taken, rows_with}
use Rattle.ux_command_line.proofs.RuleLemmas.{files_by_index, none_by_short, option_by_long, takes_value, takes_none}
use Rattle.ux_command_line.proofs.ShortLemmas.{AreFlags}
use Rattle.ux_command_line.proofs.Walks.{held_at, walk_at, awaiting_at, pending_of, fits, rows_then, no_subcommand, IsFree, Knows, passes, walk_past, settles, settled_is}
use Rattle.ux_command_line.specs.Tables.{is_flag}

one_passes : (first : Kinds) (x : Bool) → is_none first ≡ x → is_none (or_else first []) ≡ x
one_passes [] x is = is
one_passes (kind ∷ kinds) x is = is

both_pass : (first second : Kinds) (x y : Bool) → is_none first ≡ x → is_none second ≡ y →
    is_none (or_else (or_else first second) []) ≡ (x && y)
both_pass [] second x y is also = rw (← is) (one_passes second y also)
both_pass (kind ∷ kinds) second x y is also = rw (← is) refl

module _ (options : List OptionName) where
  module _ (text : Text) (is_word : bytes_eq text (45 ∷ 45 ∷ []) ≡ false)
      (not_long : long_of text ≡ None) (not_short : short_of text ≡ None)
      (rows : List Row) (last : Option Use) (knows : Knows options last) where
    -- a word that is a name
    pub plain_fault : (waiting : Waiting) → IsFree waiting →
        passes options (walk_at rows (pending_of last) waiting false) text ≡ fits rows last
    plain_fault waiting free = rw (no_subcommand waiting text, is_word, not_long, not_short)
        (rw (free.plain (rules_with options) text (held_at rows (pending_of last)))
        (rw (files_by_index options)
        (rw (and_false (is_pending built_files (pending_of last)))
        (settles options rows last knows))))

    pub plain_next : (waiting : Waiting) → IsFree waiting →
        walk_past options (walk_at rows (pending_of last) waiting false) text
        ≡ walk_at (rows_then rows last) (pending_of (Some (named text))) positional false
    plain_next waiting free = rw (no_subcommand waiting text, is_word, not_long, not_short)
        (rw (free.plain (rules_with options) text (held_at rows (pending_of last)))
        (rw (files_by_index options)
        (rw (and_false (is_pending built_files (pending_of last)))
        (rw (settled_is options rows last knows) refl))))

  -- after `--` each word is a name
  module _ (text : Text) (rows : List Row) (last : Option Use) (knows : Knows options last)
      (waiting : Waiting) where
    pub behind_fault :
        passes options (walk_at rows (pending_of last) waiting true) text ≡ fits rows last
    behind_fault = rw (files_by_index options)
        (rw (and_false (is_pending built_files (pending_of last)))
        (settles options rows last knows))

    pub behind_next :
        walk_past options (walk_at rows (pending_of last) waiting true) text
        ≡ walk_at (rows_then rows last) (pending_of (Some (named text))) positional true
    behind_next = rw (files_by_index options)
        (rw (and_false (is_pending built_files (pending_of last)))
        (rw (settled_is options rows last knows) refl))

  -- an option that the command lacks, or a flag with a value
  module _ (text : Text) (is_word : bytes_eq text (45 ∷ 45 ∷ []) ≡ false) (name : Text)
      (rows : List Row) (pending : Option (Text × List Text)) (waiting : Waiting) where
    pub unknown_fault : (given : Option Text) → long_of text ≡ Some (name, given) →
        option_with options name ≡ None →
        passes options (walk_at rows pending waiting false) text ≡ false
    unknown_fault given is_long unknown = rw (no_subcommand waiting text, is_word, is_long)
        (rw (option_by_long options name) (rw unknown refl))

    pub refused_fault : (option : OptionName) (given : Text) →
        long_of text ≡ Some (name, Some given) → option_with options name ≡ Some option →
        is_flag option ≡ true →
        passes options (walk_at rows pending waiting false) text ≡ false
    refused_fault option given is_long found flag =
        rw (no_subcommand waiting text, is_word, is_long)
        (rw (option_by_long options name) (rw found (rw (takes_none option flag) refl)))

  -- `-x`
  pub short_fault_is : (text flags : Text) → bytes_eq text (45 ∷ 45 ∷ []) ≡ false →
      long_of text ≡ None → short_of text ≡ Some flags → AreFlags flags → (rows : List Row)
      (pending : Option (Text × List Text)) (waiting : Waiting) →
      passes options (walk_at rows pending waiting false) text ≡ false
  unfolding flags_fault
  short_fault_is text flags is_word not_long is_short are rows pending waiting =
      rw (no_subcommand waiting text, is_word, not_long, is_short)
      (rw are.bytes (rw are.is_first (rw (none_by_short options are.first) refl)))

  -- an option
  module _ (text : Text) (is_word : bytes_eq text (45 ∷ 45 ∷ []) ≡ false) (name : Text)
      (rows : List Row) (last : Option Use) (waiting : Waiting) (option : OptionName)
      (found : option_with options name ≡ Some option) where
    pub flagged_fault : long_of text ≡ Some (name, None) → is_flag option ≡ true →
        Knows options last → passes options (walk_at rows (pending_of last) waiting false) text
        ≡ (fits rows last && is_taken (rows_then rows last) (flagged option))
    flagged_fault is_long flag knows = rw (no_subcommand waiting text, is_word, is_long)
        (rw (option_by_long options name) (rw found (rw (takes_none option flag)
        (rw (settled_is options rows last knows)
        (both_pass (settle_fault (rules_with options) false (held_at rows (pending_of last)))
        (use_fault false (built_option option) [] (rows_then rows last)) _ _
        (settles options rows last knows) refl)))))

    pub flagged_next : long_of text ≡ Some (name, None) → is_flag option ≡ true →
        Knows options last → walk_past options (walk_at rows (pending_of last) waiting false) text
        ≡ walk_at (rows_with (rows_then rows last) (flagged option)) None idle false
    flagged_next is_long flag knows = rw (no_subcommand waiting text, is_word, is_long)
        (rw (option_by_long options name) (rw found (rw (takes_none option flag)
        (rw (settled_is options rows last knows) refl))))

    pub valued_fault : (given : Text) → long_of text ≡ Some (name, Some given) →
        is_flag option ≡ false → Knows options last →
        passes options (walk_at rows (pending_of last) waiting false) text
        ≡ (fits rows last && is_taken (rows_then rows last) (valued option given))
    valued_fault given is_long kind knows = rw (no_subcommand waiting text, is_word, is_long)
        (rw (option_by_long options name) (rw found (rw (takes_value option kind)
        (rw (settled_is options rows last knows)
        (both_pass (settle_fault (rules_with options) false (held_at rows (pending_of last)))
        (use_fault false (built_option option) (given ∷ []) (rows_then rows last)) _ _
        (settles options rows last knows) refl)))))

    pub valued_next : (given : Text) → long_of text ≡ Some (name, Some given) →
        is_flag option ≡ false → Knows options last →
        walk_past options (walk_at rows (pending_of last) waiting false) text
        ≡ walk_at (rows_with (rows_then rows last) (valued option given)) None idle false
    valued_next given is_long kind knows = rw (no_subcommand waiting text, is_word, is_long)
        (rw (option_by_long options name) (rw found (rw (takes_value option kind)
        (rw (settled_is options rows last knows) refl))))

    pub awaiting_fault : long_of text ≡ Some (name, None) → is_flag option ≡ false →
        Knows options last →
        passes options (walk_at rows (pending_of last) waiting false) text ≡ fits rows last
    awaiting_fault is_long kind knows = rw (no_subcommand waiting text, is_word, is_long)
        (rw (option_by_long options name) (rw found (rw (takes_value option kind)
        (one_passes (settle_fault (rules_with options) false (held_at rows (pending_of last))) _
        (settles options rows last knows)))))

    pub awaiting_next : long_of text ≡ Some (name, None) → is_flag option ≡ false →
        Knows options last → walk_past options (walk_at rows (pending_of last) waiting false) text
        ≡ awaiting_at (rows_then rows last) option
    awaiting_next is_long kind knows = rw (no_subcommand waiting text, is_word, is_long)
        (rw (option_by_long options name) (rw found (rw (takes_value option kind)
        (rw (settled_is options rows last knows) refl))))

  -- `--`
  module _ (text : Text) (is_end : bytes_eq text (45 ∷ 45 ∷ []) ≡ true) (rows : List Row)
      (pending : Option (Text × List Text)) (waiting : Waiting) where
    pub end_fault : passes options (walk_at rows pending waiting false) text ≡ true
    end_fault = rw (no_subcommand waiting text, is_end) refl

    pub end_next : walk_past options (walk_at rows pending waiting false) text
        ≡ walk_at rows pending waiting true
    end_next = rw (no_subcommand waiting text, is_end) refl
