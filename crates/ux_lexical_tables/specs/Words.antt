-- The numbers of words, as they are kept. Inner: the crate's own functions alone speak of it.
use Rattle.std.specs.Prelude.{ℕ, ◌==◌, cond, Option, None, Some}
use Rattle.ux_lexical_tables.specs.declared.words.TheConstants.{NO_WORD}

-- the number of a word, or nothing where none is kept
abbrev pub word_of : ℕ → Option ℕ
word_of number = cond (number == NO_WORD) None (Some number)
