-- Words without a simple entry, by their numbers and the rows of these. Inner: the crate's own
-- functions alone speak of it.
use Rattle.std.specs.Prelude.{◌≡◌, ℕ, Bool, true, false, List, [], Option, Some, Contains, Vec, get_or}
use Rattle.ux_dela.specs.declared.entry.Entry.{Entry}
use Rattle.ux_lexical_tables.specs.Kept.{row_at}

-- the word has the number, whose row is empty
abbrev pub HasNoRow : {Z : Type 0} → List (Vec Entry Z) → (number : ℕ) (word : Option ℕ) → Type 0
HasNoRow rows number word = (word ≡ Some number) × (row_at rows word ≡ [])

-- some word has the number, whose row is empty
abbrev pub IsWithoutRow : {Z : Type 0} → List (Option ℕ) → List (Vec Entry Z) → (number : ℕ) →
    Type 0
IsWithoutRow words rows number = Contains words (Some number) × (row_at rows (Some number) ≡ [])

-- each marked number is one of these
abbrev pub AreMarkedIn : (marks : List Bool) (numbers : List ℕ) → Type 0
AreMarkedIn marks numbers =
    (number : ℕ) → get_or marks number false ≡ true → Contains numbers number
