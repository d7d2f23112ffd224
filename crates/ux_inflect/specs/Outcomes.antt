-- The lines of the entries that a search in whole finds. Inner: the crate's own functions alone speak
-- of it.
use Rattle.std.specs.Prelude.{◌≡◌, ◌≢◌, ◌↔◌, ◌⊎◌, ℕ, List, [], Option, None, Some, AllPairs, Contains, encode_utf8_all, length, reverse, slice_get}
use Rattle.ux_dela.specs.declared.entry.Entry.{Entry}
use Rattle.ux_dela.specs.declared.entry.Stem.{Stem}
use Rattle.ux_dela.specs.Printed.{printed}
use Rattle.ux_inflect.specs.declared.config.Config.{Config}
use Rattle.ux_inflect.specs.declared.outcomes.Line.{Line}
use Rattle.ux_inflect.specs.Inflected.{HasCodes, IsNotAfter}
use Rattle.ux_inflect.specs.Places.{Place, place_of}
use Rattle.ux_inflect.specs.Strokes.{Cursor}

-- the entry of a stem with this form and these codes
abbrev pub entry_with : Stem → List ℕ → List (List ℕ) → Entry
entry_with stem form codes = record {
  form = form;
  lemma = stem.lemma;
  gram = stem.gram;
  sem = stem.sem;
  infl = codes;
}

-- a word ends at the place, and its output has codes
abbrev pub IsCodedAt : Place → Type 0
IsCodedAt place = place.frames ≡ [] → (codes : List (List ℕ)) × HasCodes place.output codes

-- a word that ends at the place gives the entry
pub record Gives (stem : Stem) (place : Place) (entry : Entry) : Type 0 where
  pub over : place.frames ≡ []
  pub cursor : Cursor
  pub at : place.cursor ≡ Some cursor
  pub codes : List (List ℕ)
  pub has : HasCodes place.output codes
  pub is : entry ≡ entry_with stem (encode_utf8_all (reverse cursor.left)) codes

-- the line is that of an entry
pub record IsLineOf (stem : Stem) (place : Place) (line : Line) : Type 0 where
  pub over : place.frames ≡ []
  pub cursor : Cursor
  pub at : place.cursor ≡ Some cursor
  pub codes : List (List ℕ)
  pub has : HasCodes place.output codes
  pub form : line.form ≡ encode_utf8_all (reverse cursor.left)
  pub output : line.output ≡ place.output
  pub text : line.text ≡ printed (entry_with stem line.form codes)

-- it is the one line of the place, or there is none
abbrev pub IsOnlyLine : Stem → Place → Option Line → Type 0
IsOnlyLine stem place None = (line : Line) → IsLineOf stem place line → ⊥
IsOnlyLine stem place (Some found) = (line : Line) → IsLineOf stem place line ↔ (line ≡ found)

-- the line is that of one of the configurations
abbrev pub IsLineOfSome : Stem → List Config → Line → Type 0
IsLineOfSome stem configs line =
    (config : Config) × Contains configs config × IsLineOf stem (place_of config) line

-- the lines with those of one more configuration
abbrev pub HasMoreLines : List Line → (Line → Type 0) → List Line → Type 0
HasMoreLines old Is new = (line : Line) → Contains new line ↔ (Contains old line ⊎ Is line)

-- the entry is that of the line
abbrev pub IsEntryFor : Stem → Line → Entry → Type 0
IsEntryFor stem line entry = (codes : List (List ℕ)) → HasCodes line.output codes →
    entry ≡ entry_with stem line.form codes

-- the entries are those of the lines, in order
pub record AreEntriesFor (stem : Stem) (lines : List Line) (entries : List Entry) : Type 0 where
  pub len : length entries ≡ length lines
  pub each : (n : ℕ) (line : Line) → slice_get lines n ≡ Some line →
      (entry : Entry) × (slice_get entries n ≡ Some entry) × IsEntryFor stem line entry

-- the entries that the configurations give, each once, in the order of their lines
pub record AreListed (stem : Stem) (configs : List Config) (entries : List Entry) : Type 0 where
  pub same : (entry : Entry) → Contains entries entry ↔
      ((config : Config) × Contains configs config × Gives stem (place_of config) entry)
  pub once : AllPairs (λ a b. a ≢ b) entries
  pub in_order : AllPairs (λ a b. IsNotAfter (printed a) (printed b)) entries
