-- How an alphabet file is read: each line by itself, up to the first one that is refused. The manual,
-- on alphabet files. Public: what `Alphabet::read` answers is told by it.
use Rattle.std.specs.Prelude.{ℕ, ◌<◌, ◌≤◌, ◌-◌, ◌≡◌, true, length, slice_index, ◌==◌, ◌||◌, Bool, List, [], ◌∷◌, if◌then◌else◌}
use Rattle.std.specs.Str.{chars}
use Rattle.ux_base.specs.EachLine.{AreSaid, IsRefused}
use Rattle.ux_base.specs.Lines.{lines_of}
use Rattle.ux_alphabet.specs.declared.line.Line.{Line}
use Rattle.ux_alphabet.specs.declared.line.Line.TheVariants.{Single, Pair, Range}
use Rattle.ux_alphabet.specs.declared.error.AlphabetError.{AlphabetError}
use Rattle.ux_alphabet.specs.declared.error.AlphabetError.TheVariants.{BadLine, EmptyRange, NoMemory}

-- a space or a tab
abbrev pub is_blank : ℕ → Bool
is_blank c = c == 32 || c == 9

-- a space or a tab ends the line
abbrev pub EndsInBlank : List ℕ → Type 0
EndsInBlank line = (0 < length line) × (is_blank (slice_index line (length line - 1)) ≡ true)

-- a character before a line without blanks at its end; before nothing, a blank is at the end
abbrev pub put_first : ℕ → List ℕ → List ℕ
put_first c [] = if is_blank c then [] else c ∷ []
put_first c (d ∷ line) = c ∷ (d ∷ line)

-- the line without the spaces and tabs at its end
abbrev pub without_blanks : List ℕ → List ℕ
without_blanks [] = []
without_blanks (c ∷ line) = put_first c (without_blanks line)

-- the prefix has fewer blanks at its end, and all else of the line
abbrev pub IsLessOneBlank : (line prefix : List ℕ) → Type 0
IsLessOneBlank line prefix =
    (without_blanks prefix ≡ without_blanks line) × (length prefix < length line)

-- the sign that begins a range
abbrev pub RANGE_SIGN : ℕ
RANGE_SIGN = 35

-- the characters of the line, but for the blanks at its end
abbrev pub characters_of : List ℕ → List ℕ
characters_of text = chars (without_blanks text)

-- what a line says: nothing, one letter, two letters, or all characters from the first to the last
pub data LineSays : List ℕ → List Line → Type 0 where
  nothing : (text : List ℕ) → characters_of text ≡ [] → LineSays text []
  single : (text : List ℕ) (letter : ℕ) → characters_of text ≡ letter ∷ [] →
      LineSays text (Single letter ∷ [])
  pair : (text : List ℕ) (upper lower : ℕ) → characters_of text ≡ upper ∷ (lower ∷ []) →
      LineSays text (Pair upper lower ∷ [])
  range : (text : List ℕ) (first last : ℕ) →
      characters_of text ≡ RANGE_SIGN ∷ (first ∷ (last ∷ [])) → first ≤ last →
      LineSays text (Range first last ∷ [])

-- the line has more characters than two, and is no range
pub record IsBadLine (text : List ℕ) : Type 0 where
  pub many : 2 < length (characters_of text)
  pub no_range : (first last : ℕ) →
      characters_of text ≡ RANGE_SIGN ∷ (first ∷ (last ∷ [])) → ⊥

-- the first character of the range comes after its last one
abbrev pub IsEmptyRange : List ℕ → Type 0
IsEmptyRange text = (first last : ℕ) × (characters_of text ≡ RANGE_SIGN ∷ (first ∷ (last ∷ [])))
    × (last < first)

-- why the line with this number is refused
abbrev pub RefusesLine : List ℕ → ℕ → AlphabetError → Type 0
RefusesLine text number (BadLine line) = (line ≡ number) × IsBadLine text
RefusesLine text number (EmptyRange line) = (line ≡ number) × IsEmptyRange text
RefusesLine text number NoMemory = ⊥

-- the lines of an alphabet file that say something
abbrev pub AreLines : List ℕ → List Line → Type 0
AreLines text lines = AreSaid LineSays (lines_of text) lines

-- why an alphabet file is refused; lines count from 1
abbrev pub Refuses : List ℕ → AlphabetError → Type 0
Refuses text error = IsRefused LineSays RefusesLine 1 (lines_of text) error
