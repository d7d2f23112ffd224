-- How white space is joined where a text lies, by prefixes that stay as they are: for inner
-- functions alone.
use Rattle.std.specs.Prelude.{◌≡◌, ◌⊎◌, ℕ, ◌+◌, ◌<◌, ◌≤◌, false, List, ◌++◌, length, take, drop, slice_index}
use Rattle.ux_alphabet.specs.Letters.{is_separator}
use Rattle.ux_tokens.specs.Tokens.{with_single_spaces, SPACE}

-- what is joined of the text before a place stands at the front, and the rest is as it was
pub record IsJoined (text bytes : List ℕ) (joined place : ℕ) : Type 0 where
  pub in_order : joined ≤ place
  pub within : place ≤ length bytes
  pub spaced : with_single_spaces text
      ≡ take joined bytes ++ with_single_spaces (drop place bytes)

-- so many bytes are moved from a place to another one, and what is before and after stays
pub record IsMoved (old new : List ℕ) (from to len : ℕ) : Type 0 where
  pub same_len : length new ≡ length old
  pub front : take (to + len) new ≡ take to old ++ take len (drop from old)
  pub behind : drop (from + len) new ≡ drop (from + len) old

-- the byte stays as it is before the next one: it is no white space, or a space alone
abbrev pub Stays : (byte next : ℕ) → Type 0
Stays byte next =
    (is_separator byte ≡ false) ⊎ ((byte ≡ SPACE) × (is_separator next ≡ false))

-- each of the first bytes stays as it is
abbrev pub FirstStay : ℕ → List ℕ → Type 0
FirstStay len text =
    (k : ℕ) → k < len → Stays (slice_index text k) (slice_index text (k + 1))
