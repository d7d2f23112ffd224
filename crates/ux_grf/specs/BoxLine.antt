-- The line of one box: an `s` or nothing, the content between quotation marks, two coordinates,
-- the number of targets and the targets. Public, through `File` and `Content`.
use Rattle.std.specs.Prelude.{ℕ, ◌==◌, ◌+◌, Bool, false, ◌&&◌, List, [], Option, None, Some, option_map, if◌then◌else◌, length, take, drop, map, slice_index, slice_index_or, Vec}
use Rattle.std.specs.declared.alloc.Global.{Global}
use Rattle.std.specs.List.{list_all}
use Rattle.ux_grf.specs.declared.box_line.BoxLine.{BoxLine}
use Rattle.ux_grf.specs.declared.words.Gap.TheVariants.{Spaces}
use Rattle.ux_grf.specs.Words.{SPACE, words_of}
use Rattle.ux_grf.specs.declared.protection.Stop.TheVariants.{Mark}
use Rattle.ux_grf.specs.Protection.{QUOTE, first_free}
use Rattle.ux_grf.specs.Numbers.{is_number, is_coordinate, value_of}

abbrev pub START_MARK : ℕ
START_MARK = 115

-- what a box line says: the bytes between the quotation marks, and the targets as written
pub record BoxText : Type 0 where
  pub content : List ℕ
  pub targets : List ℕ

-- what the reader gives of a line
abbrev pub said_by : BoxLine → BoxText
said_by line = record { content = line.content.now; targets = line.targets.items }

abbrev pub values_in : Option (Vec ℕ Global) → Option (List ℕ)
values_in values = option_map (λ v. v.items) values

-- the word at a place, which is empty where there is none
abbrev pub word_at : List (List ℕ) → ℕ → List ℕ
word_at words k = slice_index_or words k []

-- the values of the words, where each is a number
abbrev pub numbers_in : List (List ℕ) → Option (List ℕ)
numbers_in words = if list_all is_number words then Some (map value_of words) else None

-- the words begin with two coordinates and the number of the words after that number
abbrev pub are_fields : List (List ℕ) → Bool
are_fields words =
    is_coordinate (word_at words 0) && (is_coordinate (word_at words 1)
    && (is_number (word_at words 2) && value_of (word_at words 2) == length (drop 3 words)))

-- the targets that the words after the content name
abbrev pub targets_in : List (List ℕ) → Option (List ℕ)
targets_in words = if are_fields words then numbers_in (drop 3 words) else None

-- a content, and the fields after it, which begin with a space
abbrev pub box_in : (content fields : List ℕ) → Option BoxText
box_in content fields =
    if slice_index fields 0 == SPACE
    then option_map (λ targets. record { content = content; targets = targets })
    (targets_in (words_of Spaces fields))
    else None

-- a text that is cut at its content's end
abbrev pub cut_at : List ℕ → Option ℕ → Option BoxText
cut_at text None = None
cut_at text (Some end) = box_in (take end text) (drop (end + 1) text)

-- what stands after the first quotation mark
abbrev pub content_and_fields : List ℕ → Option BoxText
content_and_fields text = cut_at text (first_free Mark false text)

-- the line without an `s` in front
abbrev pub without_mark : List ℕ → List ℕ
without_mark line = if slice_index line 0 == START_MARK then drop 1 line else line

-- the text begins with a quotation mark, and a content and fields stand after it
abbrev pub quoted : List ℕ → Option BoxText
quoted text =
    if slice_index text 0 == QUOTE then content_and_fields (drop 1 text) else None

-- what the line says, where it is a box line
abbrev pub box_of : List ℕ → Option BoxText
box_of line = quoted (without_mark line)
