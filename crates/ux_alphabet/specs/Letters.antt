-- Letters and fitting characters, by the lines of an alphabet file. The manual, on alphabet files.
-- Public: the crate's public contracts speak of it.
use Rattle.std.specs.Prelude.{◌≡◌, ℕ, ◌≤◌, ◌==◌, ◌||◌, ◌⊎◌, Bool, false, List, Any, Contains}
use Rattle.ux_alphabet.specs.declared.line.Line.{Line}
use Rattle.ux_alphabet.specs.declared.line.Line.TheVariants.{Single, Pair, Range}

-- a space, a tab, a carriage return or a line feed
abbrev pub is_separator : ℕ → Bool
is_separator c = c == 32 || c == 9 || c == 13 || c == 10

-- separators and braces are never letters, whatever the lines say
abbrev pub never_letter : ℕ → Bool
never_letter c = is_separator c || c == 123 || c == 125

-- the line makes the character an upper-case letter
abbrev pub NamesUpper : Line → ℕ → Type 0
NamesUpper (Single letter) c = c ≡ letter
NamesUpper (Pair upper lower) c = c ≡ upper
NamesUpper (Range first last) c = (first ≤ c) × (c ≤ last)

-- the line makes the character a lower-case letter
abbrev pub NamesLower : Line → ℕ → Type 0
NamesLower (Single letter) c = c ≡ letter
NamesLower (Pair upper lower) c = c ≡ lower
NamesLower (Range first last) c = (first ≤ c) × (c ≤ last)

-- the letters of a language: the lines of an alphabet's file, and whether each letter is a word of
-- its own
pub record Letters : Type 0 where
  pub lines : List Line
  pub single : Bool

-- the letters of these lines, of which words are made
abbrev pub letters_of : List Line → Letters
letters_of lines = record { lines = lines; single = false }

-- some line makes the character an upper-case letter, and it may be a letter
abbrev pub IsUpper : Letters → ℕ → Type 0
IsUpper letters c = (never_letter c ≡ false) × Any (λ line. NamesUpper line c) letters.lines

-- some line makes the character a lower-case letter, and it may be a letter
abbrev pub IsLower : Letters → ℕ → Type 0
IsLower letters c = (never_letter c ≡ false) × Any (λ line. NamesLower line c) letters.lines

-- the character is a letter of either case
abbrev pub IsLetter : Letters → ℕ → Type 0
IsLetter letters c = IsUpper letters c ⊎ IsLower letters c

-- a character of an entry fits one of the text: both are equal, or the text's is an upper-case form
-- of the entry's
abbrev pub Fits : Letters → (entry text : ℕ) → Type 0
Fits letters entry text = (entry ≡ text) ⊎ Contains letters.lines (Pair text entry)

-- no other character of an entry fits the character of a text
abbrev pub FitsAlone : Letters → ℕ → Type 0
FitsAlone letters text = (entry : ℕ) → Fits letters entry text → entry ≡ text
