-- How the lines of a section are collected. Inner: the crate's own functions alone speak of it.
use Rattle.std.specs.Prelude.{◌≡◌, ◌↔◌, ◌⊎◌, ℕ, ◌<◌, List, Option, None, Some, Contains, slice_get}
use Rattle.ux_dela.specs.declared.entry.Entry.{Entry}
use Rattle.ux_dela.specs.Printed.{printed}
use Rattle.ux_tokens.specs.Tokens.{Token}
use Rattle.ux_lexical_tables.specs.Tables.{Tables}

-- the new lines are the old ones and those that are such
abbrev pub HasMore : (old : List (List ℕ)) (P : List ℕ → Type 0) (new : List (List ℕ)) → Type 0
HasMore old P new = (line : List ℕ) → Contains new line ↔ (Contains old line ⊎ P line)

-- the line comes from one of these
abbrev pub FromSome : {X : Type 0} (xs : List X) (P : X → List ℕ → Type 0) (line : List ℕ) → Type 0
FromSome {X} xs P line = (x : X) × Contains xs x × P x line

-- the line is what is printed for the entry
abbrev pub IsPrinted : Entry → (line : List ℕ) → Type 0
IsPrinted entry line = line ≡ printed entry

-- the line is what is printed for the entry of a longer span
abbrev pub IsLongerPrinted : (first : ℕ) → ℕ × Entry → (line : List ℕ) → Type 0
IsLongerPrinted first member line = (first < member.0) × (line ≡ printed member.1)

-- the places that there are lie before the end
abbrev pub LieWithin : List (Option ℕ) → (end : ℕ) → Type 0
LieWithin places end = (number place : ℕ) → slice_get places number ≡ Some (Some place) → place < end

module _ (tables : Tables) where
  -- the line is what is printed for a simple entry at the place, if there is one
  abbrev pub IsSimpleAt : (place : Option ℕ) (line : List ℕ) → Type 0
  IsSimpleAt None line = ⊥
  IsSimpleAt (Some place) line = (row : List Entry) × (slice_get tables.simple place ≡ Some row)
      × FromSome row IsPrinted line

  -- the line is what is printed for a compound entry that begins at the place
  abbrev pub IsCompoundAt : (first : ℕ) (line : List ℕ) → Type 0
  IsCompoundAt first line = (row : List (ℕ × Entry)) × (slice_get tables.compounds first ≡ Some row)
      × FromSome row (IsLongerPrinted first) line

  -- the line is what is printed for a compound entry that begins before the end
  abbrev pub IsCompoundBefore : (end : ℕ) (line : List ℕ) → Type 0
  IsCompoundBefore end line = (first : ℕ) × (first < end) × IsCompoundAt first line

-- the line is the text of the word of the number, which has a place
abbrev pub IsText : List Token → (places : List (Option ℕ)) (number : ℕ) (line : List ℕ) → Type 0
IsText tokens places number line = (place : ℕ) × (slice_get places number ≡ Some (Some place))
    × (token : Token) × (slice_get tokens place ≡ Some token) × (line ≡ token.text)
