-- clap's walk over a word that is no value, and those after it, takes the uses of these words.
use Rattle.std.proofs.Common.{◌≡◌, ◌∙◌, refl, sym, Bool, true, false, ◌&&◌, List, [], ◌∷◌, Option, Some, None, if◌then◌else◌, bytes_eq, IsUtf8}
use Rattle.clap.specs.Lexer.{long_of, short_of}
use Rattle.clap.specs.Walk.{Row, Text, Walk, Waiting, idle, positional, arg_by_id}
use Rattle.ux_command_line.specs.declared.command.OptionName.{OptionName}
use Rattle.ux_command_line.proofs.Uses.{built_option, rules_with, option_with, Use, named, flagged, valued, is_taken, rows_with, in_front, anew, awaits, behind, uses_by_option, uses_by_kind, uses_by_form, uses_unless_short, uses_of}
use Rattle.ux_command_line.proofs.RuleLemmas.{files_by_id, option_by_id}
use Rattle.ux_command_line.proofs.ShortLemmas.{short_flags}
use Rattle.ux_command_line.proofs.Walks.{walk_at, awaiting_at, pending_of, fits, rows_then, past_pending, rows_by, IsFree, free_idle, free_positional, Knows, passes, walk_past, rows_at_end, settles, settled_is}
use Rattle.ux_command_line.proofs.WalkSteps.{plain_fault, plain_next, behind_fault, behind_next, unknown_fault, refused_fault, short_fault_is, flagged_fault, flagged_next, valued_fault, valued_next, awaiting_fault, awaiting_next, end_fault, end_next}
use Rattle.ux_command_line.specs.Tables.{name_of, is_flag}

none_either_way : {T : Type 0} (b : Bool) →
    ◌≡◌ {A = Option T} (if b then None else None) None
none_either_way true = refl
none_either_way false = refl

-- a use that is kept till the next word
kept : (rows : List Row) (last : Option Use) (here : Use) (uses : Option (List Use)) →
    (if fits rows last then rows_by (rows_then rows last) (Some here) uses else None)
    ≡ rows_by rows last (in_front here uses)
kept rows last here None = none_either_way (fits rows last)
kept rows last here (Some later) = sym (past_pending rows last (here ∷ later))

two_tests : {T : Type 0} (first second : Bool) (x : Option T) →
    (if first && second then x else None) ≡ (if first then (if second then x else None) else None)
two_tests true second x = refl
two_tests false second x = refl

-- a use that is taken at once
at_once : (rows : List Row) (last : Option Use) (here : Use) (uses : Option (List Use)) →
    (if fits rows last && is_taken (rows_then rows last) here
    then rows_by (rows_with (rows_then rows last) here) None uses else None)
    ≡ rows_by rows last (in_front here uses)
at_once rows last here None =
    none_either_way (fits rows last && is_taken (rows_then rows last) here)
at_once rows last here (Some later) =
    two_tests (fits rows last) (is_taken (rows_then rows last) here) _
    ∙ sym (past_pending rows last (here ∷ later))

-- no use yet
none_yet : (rows : List Row) (last : Option Use) (uses : Option (List Use)) →
    (if fits rows last then rows_by (rows_then rows last) None uses else None)
    ≡ rows_by rows last uses
none_yet rows last None = none_either_way (fits rows last)
none_yet rows last (Some later) = sym (past_pending rows last later)

module _ (options : List OptionName) where
  module _ (walk : Walk) (text : Text) (words : List Text) where
    -- the first word is taken
    pub step : (next : Walk) (b : Bool) (end : Option (List Row)) →
        passes options walk text ≡ b → walk_past options walk text ≡ next →
        rows_at_end options next words ≡ end →
        rows_at_end options walk (text ∷ words) ≡ (if b then end else None)
    step next b end taken is later = rw (taken, is, later) refl

    -- it is refused
    pub refused : passes options walk text ≡ false →
        rows_at_end options walk (text ∷ words) ≡ None
    refused fails = rw fails refl

  -- what the walk makes of the words, by the way in which the first of them is read
  pub record IsWalked (words : List Text) : Type 0 where
    pub at_word : (rows : List Row) (last : Option Use) (waiting : Waiting) →
        Knows options last → IsFree waiting →
        rows_at_end options (walk_at rows (pending_of last) waiting false) words
        ≡ rows_by rows last (uses_of options anew words)
    pub at_value : (rows : List Row) (option : OptionName) → is_flag option ≡ false →
        arg_by_id (rules_with options) (name_of option) ≡ Some (built_option option) →
        rows_at_end options (awaiting_at rows option) words
        ≡ rows_by rows None (uses_of options (awaits option) words)
    pub at_name : (rows : List Row) (last : Option Use) (waiting : Waiting) →
        Knows options last →
        rows_at_end options (walk_at rows (pending_of last) waiting true) words
        ≡ rows_by rows last (uses_of options behind words)

  pub at_end : (rows : List Row) (last : Option Use) (waiting : Waiting) (trailing : Bool) →
      Knows options last → rows_at_end options (walk_at rows (pending_of last) waiting trailing) []
      ≡ rows_by rows last (Some [])
  at_end rows last waiting trailing knows =
      rw (settles options rows last knows) (rw (settled_is options rows last knows)
      (sym (past_pending rows last [])))

  module _ (text : Text) (utf8 : IsUtf8 text) (words : List Text) (later : IsWalked words)
      (rows : List Row) (last : Option Use) (waiting : Waiting) (knows : Knows options last) where
    -- a name after `--`
    pub name_step : rows_at_end options (walk_at rows (pending_of last) waiting true) (text ∷ words)
        ≡ rows_by rows last (uses_of options behind (text ∷ words))
    name_step = step (walk_at rows (pending_of last) waiting true) text words _ _ _
        (behind_fault options text rows last knows waiting)
        (behind_next options text rows last knows waiting)
        (later.at_name (rows_then rows last) (Some (named text)) positional (files_by_id options))
        ∙ kept rows last (named text) (uses_of options behind words)

    -- a word that is no value
    module _ (free : IsFree waiting) where
      abbrev here : Walk
      here = walk_at rows (pending_of last) waiting false

      by_kind : (option : OptionName) (name : Text) →
          option_with options name ≡ Some option → bytes_eq text (45 ∷ 45 ∷ []) ≡ false →
          (kind : Bool) → is_flag option ≡ kind → (given : Option Text) →
          long_of text ≡ Some (name, given) → rows_at_end options here (text ∷ words)
          ≡ rows_by rows last
          (uses_by_kind kind option given (λ reading. uses_of options reading words))
      by_kind option name found is_word true flag (Some given) is_long =
          refused here text words (refused_fault options text is_word name rows (pending_of last)
          waiting option given is_long found flag)
      by_kind option name found is_word true flag None is_long =
          step here text words _ _ _
          (flagged_fault options text is_word name rows last waiting option found is_long flag
          knows)
          (flagged_next options text is_word name rows last waiting option found is_long flag
          knows)
          (later.at_word _ None idle tt free_idle)
          ∙ at_once rows last (flagged option) (uses_of options anew words)
      by_kind option name found is_word false kind (Some given) is_long =
          step here text words _ _ _
          (valued_fault options text is_word name rows last waiting option found given is_long kind
          knows)
          (valued_next options text is_word name rows last waiting option found given is_long kind
          knows)
          (later.at_word _ None idle tt free_idle)
          ∙ at_once rows last (valued option given) (uses_of options anew words)
      by_kind option name found is_word false kind None is_long =
          step here text words _ _ _
          (awaiting_fault options text is_word name rows last waiting option found is_long kind
          knows)
          (awaiting_next options text is_word name rows last waiting option found is_long kind
          knows)
          (later.at_value (rows_then rows last) option kind
          (option_by_id options option name found))
          ∙ none_yet rows last (uses_of options (awaits option) words)

      by_option : (name : Text) → bytes_eq text (45 ∷ 45 ∷ []) ≡ false → (given : Option Text) →
          long_of text ≡ Some (name, given) → (found : Option OptionName) →
          option_with options name ≡ found → rows_at_end options here (text ∷ words)
          ≡ rows_by rows last
          (uses_by_option found given (λ reading. uses_of options reading words))
      by_option name is_word given is_long None unknown =
          refused here text words (unknown_fault options text is_word name rows (pending_of last)
          waiting given is_long unknown)
      by_option name is_word given is_long (Some option) found =
          by_kind option name found is_word (is_flag option) refl given is_long

      by_short : bytes_eq text (45 ∷ 45 ∷ []) ≡ false → long_of text ≡ None →
          (short : Option Text) → short_of text ≡ short →
          rows_at_end options here (text ∷ words) ≡ rows_by rows last
          (uses_unless_short short (in_front (named text) (uses_of options anew words)))
      by_short is_word not_long (Some flags) is_short =
          refused here text words (short_fault_is options text flags is_word not_long is_short
          (short_flags text flags utf8 is_short) rows (pending_of last) waiting)
      by_short is_word not_long None not_short = step here text words _ _ _
          (plain_fault options text is_word not_long not_short rows last knows waiting free)
          (plain_next options text is_word not_long not_short rows last knows waiting free)
          (later.at_word (rows_then rows last) (Some (named text)) positional (files_by_id options)
          free_positional)
          ∙ kept rows last (named text) (uses_of options anew words)

      by_form : bytes_eq text (45 ∷ 45 ∷ []) ≡ false →
          (long : Option (Text × Option Text)) → long_of text ≡ long →
          rows_at_end options here (text ∷ words) ≡ rows_by rows last
          (uses_by_form options text long (λ reading. uses_of options reading words))
      by_form is_word (Some long) is_long =
          by_option long.0 is_word long.1 is_long (option_with options long.0) refl
      by_form is_word None not_long = by_short is_word not_long (short_of text) refl

      by_word : (end : Bool) → bytes_eq text (45 ∷ 45 ∷ []) ≡ end →
          rows_at_end options here (text ∷ words)
          ≡ rows_by rows last (if end then uses_of options behind words
          else uses_by_form options text (long_of text) (λ reading. uses_of options reading words))
      by_word true is_end = step here text words _ true _
          (end_fault options text is_end rows (pending_of last) waiting)
          (end_next options text is_end rows (pending_of last) waiting)
          (later.at_name rows last waiting knows)
      by_word false is_word = by_form is_word (long_of text) refl

      pub word_step : rows_at_end options here (text ∷ words)
          ≡ rows_by rows last (uses_of options anew (text ∷ words))
      word_step = by_word (bytes_eq text (45 ∷ 45 ∷ [])) refl
