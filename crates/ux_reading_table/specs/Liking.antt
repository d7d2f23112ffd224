-- How it is noted which readings are alike. Inner: the crate's own functions alone speak of it.
use Rattle.std.specs.Prelude.{◌≡◌, ℕ, List, Some, slice_get}
use Rattle.ux_dela.specs.declared.entry.Codes.{Codes}
use Rattle.ux_reading_table.specs.Alike.{AreAlike, HasCodesAt, IsEntryText}
use Rattle.ux_reading_table.specs.declared.likes.Likes.{Likes}

-- the text is that of an entry with the codes at the place, if there are any
abbrev pub HasCodesText : (codes : List Codes) (text : List ℕ) (place : ℕ) → Type 0
HasCodesText codes text place =
    (one : Codes) → slice_get codes place ≡ Some one → IsEntryText text one

-- the text at the number is that of an entry with the codes at the place, if there are any
abbrev pub HasCodesOf : (texts : List (List ℕ)) (codes : List Codes) (place number : ℕ) → Type 0
HasCodesOf texts codes place number =
    (one : Codes) → slice_get codes place ≡ Some one → HasCodesAt texts one number

-- beside codes stands the number of a reading with them
abbrev pub AreFirsts : (texts : List (List ℕ)) (codes : List Codes) (firsts : List ℕ) → Type 0
AreFirsts texts codes firsts = (place first : ℕ) → slice_get firsts place ≡ Some first →
    (one : Codes) × (slice_get codes place ≡ Some one) × HasCodesAt texts one first

-- what is noted of the readings with these texts is so
pub record AreLikes (texts : List (List ℕ)) (codes : List Codes) (likes : Likes) : Type 0 where
  pub alike : AreAlike texts likes.alike.items
  pub firsts : AreFirsts texts codes likes.firsts.items
