-- Which readings of sentences the labels of a net match. The manual, on lexical masks and on the text
-- automaton. Public: the crate's public contracts speak of it.
use Rattle.std.specs.Prelude.{◌≡◌, ◌≢◌, ℕ, ◌≤◌, List, [], ◌∷◌, All}
use Rattle.std.specs.List.{AllZip}
use Rattle.std.specs.Str.{chars}
use Rattle.ux_alphabet.specs.Letters.{Letters, Fits, IsLetter, IsLower, IsUpper}
use Rattle.ux_dela.specs.declared.entry.Entry.{Entry}
use Rattle.ux_masks.specs.Meets.{MeetsParts}
use Rattle.ux_masks.specs.declared.mask.Mask.{Mask}
use Rattle.ux_masks.specs.declared.mask.Mask.TheVariants as mask
use Rattle.ux_net.specs.declared.label.Label.{Label}
use Rattle.ux_net.specs.declared.label.Label.TheVariants as label
use Rattle.ux_sentence.specs.declared.sentence.Reading.{Reading}
use Rattle.ux_sentence.specs.declared.sentence.Reading.TheVariants.{Word, Raw}
use Rattle.ux_sentence.specs.Written.{reading_text}

-- the text of a reading: the form of an entry, or the text that has none
abbrev pub text_of : Reading → List ℕ
text_of (Word entry) = entry.form
text_of (Raw text) = text

-- one digit from 0 to 9
abbrev pub IsDigit : List ℕ → Type 0
IsDigit text = (digit : ℕ) × (48 ≤ digit) × (digit ≤ 57) × (text ≡ digit ∷ [])

-- the first character is so
abbrev pub BeginsSo : (ℕ → Type 0) → List ℕ → Type 0
BeginsSo IsSo [] = ⊥
BeginsSo IsSo (c ∷ rest) = IsSo c

-- the reading is an entry, which stands so between braces
abbrev pub IsShown : List ℕ → Reading → Type 0
IsShown text (Word entry) = text ≡ reading_text (Word entry)
IsShown text (Raw raw) = ⊥

module _ (letters : Letters) where
  -- one or more letters
  abbrev pub IsWordy : List ℕ → Type 0
  IsWordy text = (text ≢ []) × All (IsLetter letters) (chars text)

  -- such a text, of whose characters it is so, or isn't
  abbrev pub IsWordySo : (List ℕ → Type 0) → List ℕ → Type 0
  IsWordySo IsSo text = IsWordy text × IsSo (chars text)

  abbrev pub IsWordyNot : (List ℕ → Type 0) → List ℕ → Type 0
  IsWordyNot IsSo text = IsWordy text × (IsSo (chars text) → ⊥)

  -- the mask asks for letters alone, and the text has them; a mask that asks for more has a row below
  abbrev pub IsSpelled : Mask → List ℕ → Type 0
  IsSpelled mask.Word text = IsWordy text
  IsSpelled mask.Lower text = IsWordySo (All (IsLower letters)) text
  IsSpelled mask.NotLower text = IsWordyNot (All (IsLower letters)) text
  IsSpelled mask.Upper text = IsWordySo (All (IsUpper letters)) text
  IsSpelled mask.NotUpper text = IsWordyNot (All (IsUpper letters)) text
  IsSpelled mask.First text = IsWordySo (BeginsSo (IsUpper letters)) text
  IsSpelled mask.NotFirst text = IsWordyNot (BeginsSo (IsUpper letters)) text
  IsSpelled other text = ⊥

  -- the mask accepts an entry of this form, whatever else it has
  abbrev pub AcceptsForm : Mask → List ℕ → Type 0
  AcceptsForm mask.Token form = Unit {0}
  AcceptsForm mask.Dic form = Unit {0}
  AcceptsForm mask.SDic form = IsWordy form
  AcceptsForm mask.CDic form = IsWordy form → ⊥
  AcceptsForm other form = IsSpelled other form

  -- it accepts the entry
  abbrev pub AcceptsEntry : Mask → Entry → Type 0
  AcceptsEntry (mask.Lexical parts) entry = MeetsParts parts entry
  AcceptsEntry (mask.NotLexical parts) entry = MeetsParts parts entry → ⊥
  AcceptsEntry other entry = AcceptsForm other entry.form

  -- it accepts a text that has no entry
  abbrev pub AcceptsRaw : Mask → List ℕ → Type 0
  AcceptsRaw mask.Token text = Unit {0}
  AcceptsRaw mask.NotWord text = IsWordy text → ⊥
  AcceptsRaw mask.NotDic text = IsWordy text
  AcceptsRaw mask.NotSDic text = IsWordy text
  AcceptsRaw mask.Nb text = IsDigit text
  AcceptsRaw (mask.NotLexical parts) text = IsWordy text
  AcceptsRaw other text = IsSpelled other text

  -- it accepts the reading
  abbrev pub Accepts : Mask → Reading → Type 0
  Accepts mask (Word entry) = AcceptsEntry mask entry
  Accepts mask (Raw text) = AcceptsRaw mask text

  -- the label matches the reading
  abbrev pub Matches : Label → Reading → Type 0
  Matches (label.CaseFolded text) reading =
      AllZip (Fits letters) (chars text) (chars (text_of reading))
  Matches (label.CaseExact text) reading = text_of reading ≡ text
  Matches (label.Mask mask) reading = Accepts mask reading
  Matches (label.Brace text) reading = IsShown text reading
  Matches other reading = ⊥
