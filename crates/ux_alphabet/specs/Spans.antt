-- Spans of characters, which a table is made of. A span whose first character comes after its last
-- one holds none. Inner: the crate's own functions alone speak of it.
use Rattle.std.specs.Prelude.{◌≡◌, ℕ, ◌+◌, ◌<◌, ◌≤◌, List, Any, Bool, false, IsTrue, slice_index, slice_index_or, length, ◌↔◌}
use Rattle.ux_alphabet.specs.Letters.{never_letter}
use Rattle.ux_alphabet.specs.declared.line.Line.{Line}
use Rattle.ux_alphabet.specs.declared.line.Line.TheVariants.{Single, Pair, Range}
use Rattle.ux_alphabet.specs.declared.spans.Span.{Span}

-- the characters that a line makes upper-case letters
abbrev pub upper_span : Line → Span
upper_span (Single letter) = record { first = letter; last = letter }
upper_span (Pair upper lower) = record { first = upper; last = upper }
upper_span (Range first last) = record { first = first; last = last }

-- the characters that a line makes lower-case letters
abbrev pub lower_span : Line → Span
lower_span (Single letter) = record { first = letter; last = letter }
lower_span (Pair upper lower) = record { first = lower; last = lower }
lower_span (Range first last) = record { first = first; last = last }

-- the span holds the character
abbrev pub Holds : ℕ → Span → Type 0
Holds c span = (span.first ≤ c) × (c ≤ span.last)

abbrev pub IsHeld : List Span → ℕ → Type 0
IsHeld spans c = Any (Holds c) spans

-- the span begins at the character and goes up to y or further
abbrev pub Reaches : (start y : ℕ) → Span → Type 0
Reaches start y span = (span.first ≡ start) × (y ≤ span.last)

abbrev pub IsReached : List Span → (start y : ℕ) → Type 0
IsReached spans start y = Any (Reaches start y) spans

-- the list has at each character the place behind the furthest that the spans reach which begin
-- there, or 0
abbrev pub AreReaches : List Span → List ℕ → Type 0
AreReaches spans reaches = (start y : ℕ) → (y < slice_index reaches start) ↔ IsReached spans start y

-- some place below the limit reaches past y
abbrev pub ReachesPast : List ℕ → (limit y : ℕ) → Type 0
ReachesPast reaches limit y = (start : ℕ) × (start < limit) × (y < slice_index reaches start)

-- the place may be a letter, and one up to it reaches past it
abbrev pub IsMarked : List ℕ → ℕ → Type 0
IsMarked reaches c = (never_letter c ≡ false) × ReachesPast reaches (c + 1) c

-- each place is marked as it is to be
pub record IsSwept (reaches : List ℕ) (table : List Bool) : Type 0 where
  pub size : length table ≡ length reaches
  pub marks : (c : ℕ) → c < length reaches →
      IsTrue (slice_index_or table c false) ↔ IsMarked reaches c

-- the table says of each character whether a span holds it and it may be a letter
abbrev pub IsTableOf : List Span → List Bool → Type 0
IsTableOf spans table =
    (c : ℕ) → IsTrue (slice_index_or table c false) ↔ ((never_letter c ≡ false) × IsHeld spans c)
