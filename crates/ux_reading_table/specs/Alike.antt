-- Readings that have the same codes. Public: the crate's public contracts speak of it.
use Rattle.std.specs.Prelude.{◌≡◌, ◌⊎◌, ℕ, List, Some, slice_get}
use Rattle.ux_dela.specs.Sound.{IsSound}
use Rattle.ux_dela.specs.declared.entry.Codes.{Codes}
use Rattle.ux_dela.specs.declared.entry.Entry.{Entry}
use Rattle.ux_sentence.specs.Written.{reading_text}
use Rattle.ux_sentence.specs.declared.sentence.Reading.TheVariants.{Word}

-- the codes of an entry
abbrev pub codes_in : Entry → Codes
codes_in entry = record { gram = entry.gram; sem = entry.sem; infl = entry.infl }

-- the text is the printed one of an entry with these codes
pub record IsEntryText (text : List ℕ) (codes : Codes) : Type 0 where
  pub entry : Entry
  pub sound : IsSound entry
  pub text_is : text ≡ reading_text (Word entry)
  pub codes_are : codes_in entry ≡ codes

-- such a text stands at the place
abbrev pub HasCodesAt : (texts : List (List ℕ)) (codes : Codes) (place : ℕ) → Type 0
HasCodesAt texts codes place =
    (text : List ℕ) × (slice_get texts place ≡ Some text) × IsEntryText text codes

-- the texts at the two places are those of entries with the same codes, or the places are one
abbrev pub IsAlike : (texts : List (List ℕ)) (place other : ℕ) → Type 0
IsAlike texts place other = (other ≡ place)
    ⊎ ((codes : Codes) × HasCodesAt texts codes place × HasCodesAt texts codes other)

-- beside each place stands one that is alike
abbrev pub AreAlike : (texts : List (List ℕ)) (likes : List ℕ) → Type 0
AreAlike texts likes =
    (place other : ℕ) → slice_get likes place ≡ Some other → IsAlike texts place other
