-- How many columns a text takes. Public: the crate's public contracts speak of it.
use Rattle.std.specs.Prelude.{ℕ, false, List, unwrap_or, sum_by, chars}
use Rattle.unicode_width.specs.Width.{char_width}

-- the columns that a character takes; one without a display width takes none
abbrev pub columns_of : ℕ → ℕ
columns_of c = unwrap_or (char_width false c) 0

-- the width of a text: the columns of its characters together
abbrev pub width : List ℕ → ℕ
width text = sum_by columns_of (chars text)
