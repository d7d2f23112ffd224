-- The head of a graph file: its first line, lines that don't matter, and the number of boxes.
-- Public, through `File` and `Content`.
use Rattle.std.specs.Prelude.{ℕ, ◌==◌, Bool, ◌&&◌, nat_le, nat_eq, List, [], ◌∷◌, Option, None, Some, if◌then◌else◌, length, drop, take, codes, slice_index}
use lib.Pointwise.{pointwise}
use Rattle.std.specs.List.{list_all}
use Rattle.ux_grf.specs.declared.words.Gap.TheVariants.{Spaces}
use Rattle.ux_grf.specs.Words.{SPACE, words_of}
use Rattle.ux_grf.specs.Numbers.{is_decimal, value_of}

-- the line is the mark and then spaces or nothing
abbrev pub is_mark : (mark line : List ℕ) → Bool
is_mark mark line =
    pointwise nat_eq (take (length mark) line) mark
    && list_all (λ b. b == SPACE) (drop (length mark) line)

-- the lines after the first line `#`
abbrev pub after_mark : List (List ℕ) → Option (List (List ℕ))
after_mark [] = None
after_mark (line ∷ lines) = if is_mark (codes "#") line then Some lines else after_mark lines

-- the lines after the header, which begins with `#Unigraph` and ends with `#`
abbrev pub after_header : List (List ℕ) → Option (List (List ℕ))
after_header [] = None
after_header (line ∷ lines) = if is_mark (codes "#Unigraph") line then after_mark lines else None

-- the number that the words of a line write, of boxes that a graph may have
abbrev pub count_in : List (List ℕ) → Option ℕ
count_in [] = None
count_in (word ∷ []) =
    if is_decimal word && (nat_le 2 (value_of word) && nat_le (value_of word) 65535)
    then Some (value_of word) else None
count_in (word ∷ other ∷ words) = None

-- the number of boxes that a line tells: one decimal number at its start, from 2 to 65,535
abbrev pub count_of : List ℕ → Option ℕ
count_of line = if slice_index line 0 == SPACE then None else count_in (words_of Spaces line)
