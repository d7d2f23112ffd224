-- What the tables of an alphabet say of its lines. Inner: the crate's own functions alone speak of
-- it.
use Rattle.std.specs.Prelude.{◌≡◌, ℕ, List, Bool, false, IsTrue, slice_index_or, ◌↔◌, ◌⊎◌, Any, Contains}
use Rattle.ux_alphabet.specs.Letters.{letters_of, IsUpper, IsLower, IsLetter}
use Rattle.ux_alphabet.specs.declared.line.Line.{Line}
use Rattle.ux_alphabet.specs.declared.line.Line.TheVariants.{Single, Pair, Range}

-- these are the pairs among the lines
abbrev pub ArePairsOf : List Line → List (ℕ × ℕ) → Type 0
ArePairsOf lines pairs =
    (upper lower : ℕ) → Contains pairs (upper, lower) ↔ Contains lines (Pair upper lower)

-- the table marks what one of the two marks
abbrev pub IsEither : (upper lower table : List Bool) → Type 0
IsEither upper lower table = (c : ℕ) → IsTrue (slice_index_or table c false)
    ↔ (IsTrue (slice_index_or upper c false) ⊎ IsTrue (slice_index_or lower c false))

-- the line makes the character an upper-case form of another one, be it a letter or not
abbrev pub NamesUpperForm : Line → ℕ → Type 0
NamesUpperForm (Single letter) c = ⊥
NamesUpperForm (Pair upper lower) c = (c ≡ upper) × (lower ≡ c → ⊥)
NamesUpperForm (Range first last) c = ⊥

-- the table marks the characters that some line makes upper-case forms of others
abbrev pub AreUpperForms : List Line → List Bool → Type 0
AreUpperForms lines table = (c : ℕ) →
    IsTrue (slice_index_or table c false) ↔ Any (λ line. NamesUpperForm line c) lines

-- the marks say which characters are letters of each case and of either one, and which are
-- upper-case forms of others; the pairs are those of the lines
pub record AreTablesOf (lines : List Line) (upper lower letter forms : List Bool)
    (pairs : List (ℕ × ℕ)) : Type 0 where
  pub uppers : (c : ℕ) → IsTrue (slice_index_or upper c false) ↔ IsUpper (letters_of lines) c
  pub lowers : (c : ℕ) → IsTrue (slice_index_or lower c false) ↔ IsLower (letters_of lines) c
  pub letters : (c : ℕ) → IsTrue (slice_index_or letter c false) ↔ IsLetter (letters_of lines) c
  pub forms_are : AreUpperForms lines forms
  pub pairs_are : ArePairsOf lines pairs
