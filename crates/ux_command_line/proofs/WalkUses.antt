-- clap's walk over the words takes the uses of the words, one after the other.
use Rattle.std.proofs.Common.{◌≡◌, ◌∙◌, refl, Bool, true, false, List, [], ◌∷◌, Option, Some, None, option_and_then, if◌then◌else◌, bytes_eq, IsUtf8}
use Rattle.clap.specs.Lexer.{long_of, short_of}
use Rattle.clap.specs.Walk.{Row, Text, Walk, Waiting, idle, arg_by_id}
use Rattle.ux_command_line.specs.declared.command.OptionName.{OptionName}
use Rattle.ux_command_line.proofs.Uses.{built_option, rules_with, Use, valued, rows_past, in_front, anew, awaits, uses_by_value, uses_unless_short, uses_of}
use Rattle.ux_command_line.proofs.ShortLemmas.{short_flags}
use Rattle.ux_command_line.proofs.Walks.{walk_at, awaiting_at, rows_by, free_idle, rows_at_end}
use Rattle.ux_command_line.proofs.WalkSteps.{short_fault_is, end_fault, end_next}
use Rattle.ux_command_line.proofs.WalkValues.{unsettled, value_fault, value_next, option_fault, unsettled_end}
use Rattle.ux_command_line.proofs.WalkWords.{IsWalked, step, refused, at_end, name_step, word_step}
use Rattle.ux_command_line.specs.Tables.{name_of, is_flag}

-- each of the words is text
abbrev pub AreUtf8 : List Text → Type 0
AreUtf8 [] = Unit
AreUtf8 (text ∷ words) = IsUtf8 text × AreUtf8 words

module _ (options : List OptionName) where
  -- a word that is to be a value
  module _ (text : Text) (utf8 : IsUtf8 text) (words : List Text)
      (later : IsWalked options words) (rows : List Row) (option : OptionName)
      (kind : is_flag option ≡ false)
      (knows : arg_by_id (rules_with options) (name_of option) ≡ Some (built_option option)) where
    abbrev here : Walk
    here = awaiting_at rows option

    by_short : bytes_eq text (45 ∷ 45 ∷ []) ≡ false → long_of text ≡ None →
        (short : Option Text) → short_of text ≡ short →
        rows_at_end options here (text ∷ words) ≡ rows_by rows None
        (uses_unless_short short (in_front (valued option text) (uses_of options anew words)))
    by_short is_word not_long (Some flags) is_short =
        refused options here text words (short_fault_is options text flags is_word not_long
        is_short (short_flags text flags utf8 is_short) rows (Some (name_of option, []))
        (Waiting.option (name_of option)))
    by_short is_word not_long None not_short = step options here text words _ true _
        (value_fault options option kind knows rows text is_word not_long not_short)
        (value_next options option kind knows rows text is_word not_long not_short)
        (later.at_word rows (Some (valued option text)) idle knows free_idle)
        ∙ as_value (uses_of options anew words)
      where
        as_value : (uses : Option (List Use)) → rows_by rows (Some (valued option text)) uses
            ≡ rows_by rows None (in_front (valued option text) uses)
        as_value None = refl
        as_value (Some more) = refl

    by_form : bytes_eq text (45 ∷ 45 ∷ []) ≡ false →
        (long : Option (Text × Option Text)) → long_of text ≡ long →
        rows_at_end options here (text ∷ words)
        ≡ rows_by rows None (uses_by_value option text long (uses_of options anew words))
    by_form is_word (Some long) is_long = refused options here text words
        (option_fault options option kind knows rows text is_word long.0 long.1 is_long)
    by_form is_word None not_long = by_short is_word not_long (short_of text) refl

    by_word : (end : Bool) → bytes_eq text (45 ∷ 45 ∷ []) ≡ end →
        rows_at_end options here (text ∷ words) ≡ rows_by rows None (if end then None
        else uses_by_value option text (long_of text) (uses_of options anew words))
    by_word true is_end = step options here text words _ true _
        (end_fault options text is_end rows (Some (name_of option, []))
        (Waiting.option (name_of option)))
        (end_next options text is_end rows (Some (name_of option, []))
        (Waiting.option (name_of option)))
        (unsettled_end options option kind knows rows (Waiting.option (name_of option)) words)
    by_word false is_word = by_form is_word (long_of text) refl

    value_step : rows_at_end options here (text ∷ words)
        ≡ rows_by rows None (uses_of options (awaits option) (text ∷ words))
    value_step = by_word (bytes_eq text (45 ∷ 45 ∷ [])) refl

  walks : (words : List Text) → AreUtf8 words → IsWalked options words
  walks [] utf8 = record {
    at_word = λ rows last waiting knows free. at_end options rows last waiting false knows;
    at_value = λ rows option kind knows. rw (unsettled options option kind knows rows) refl;
    at_name = λ rows last waiting knows. at_end options rows last waiting true knows;
  }
  walks (text ∷ words) utf8 = record {
    at_word = word_step options text utf8.0 words (walks words utf8.1);
    at_value = value_step text utf8.0 words (walks words utf8.1);
    at_name = name_step options text utf8.0 words (walks words utf8.1);
  }

  -- clap's walk over all of the words
  pub rows_of_words : (words : List Text) → AreUtf8 words →
      rows_at_end options (walk_at [] None idle false) words
      ≡ option_and_then (rows_past []) (uses_of options anew words)
  rows_of_words words utf8 = (walks words utf8).at_word [] None idle tt free_idle
