-- What the text of a reading says. Public: the crate's public contracts speak of it.
use Rattle.std.specs.Prelude.{◌≡◌, ◌≢◌, ℕ, ◌==◌, Bool, false, ◌||◌, List, [], ◌∷◌, ◌++◌}
use Rattle.std.specs.List.{list_any}
use Rattle.ux_base.specs.Lines.{LINE_FEED, CARRIAGE_RETURN}
use Rattle.ux_dela.specs.Delaf.{DelafParts, IsDelafLine, entries_of}
use Rattle.ux_dela.specs.Sound.{IsSound}
use Rattle.ux_dela.specs.declared.entry.Entry.{Entry}
use Rattle.ux_sentence.specs.declared.sentence.Reading.{Reading}
use Rattle.ux_sentence.specs.declared.sentence.Reading.TheVariants.{Word, Raw}
use Rattle.ux_sentence.specs.Written.{SPACE, OPENING_BRACE, CLOSING_BRACE}

abbrev pub TAB : ℕ
TAB = 9

-- a space, a tab, a carriage return or a line feed
abbrev pub is_separator : ℕ → Bool
is_separator b = b == SPACE || (b == TAB || (b == CARRIAGE_RETURN || b == LINE_FEED))

-- the body stands between braces, and isn't empty
pub record IsBraced (text body : List ℕ) : Type 0 where
  pub whole : text ≡ OPENING_BRACE ∷ (body ++ CLOSING_BRACE ∷ [])
  pub some : body ≢ []

-- the body is a line of forms that gives this entry alone, and has no comment
pub record IsEntryBody (body : List ℕ) (entry : Entry) : Type 0 where
  pub parts : DelafParts
  pub line : IsDelafLine body parts
  pub alone : entries_of parts ≡ entry ∷ []
  pub no_comment : parts.comment ≡ []

-- a text that isn't empty, has no separator and doesn't stand between braces
pub record IsRawText (text : List ℕ) : Type 0 where
  pub some : text ≢ []
  pub no_separator : list_any is_separator text ≡ false
  pub no_braces : (body : List ℕ) → IsBraced text body → ⊥

-- the text says the reading
abbrev pub IsReading : List ℕ → Reading → Type 0
IsReading text (Word entry) = (body : List ℕ) × IsBraced text body × IsEntryBody body entry
IsReading text (Raw raw) = (raw ≡ text) × IsRawText text

-- a reading that a text can say
abbrev pub IsSpellable : Reading → Type 0
IsSpellable (Word entry) = IsSound entry
IsSpellable (Raw raw) = IsRawText raw
