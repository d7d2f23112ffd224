-- Keys, by which entries are found without a look at their forms: the first eight bytes of a form
-- as a number, so that keys have the order of forms as far as these bytes go. Inner: the crate's
-- own functions alone speak of it.
use Rattle.std.specs.Prelude.{◌==◌, ◌<◌, ◌+◌, ◌*◌, ℕ, zero, suc, List, [], ◌∷◌, All, Bool, cond, nat_lt, nat_le}
use Rattle.ux_dela.specs.declared.entry.Entry.{Entry}

-- each number is a byte
abbrev pub AreBytes : List ℕ → Type 0
AreBytes text = All (λ byte. byte < 256) text

-- the number that was read, and behind it the next n bytes of the text, of which one that is
-- missing counts as given
unfoldable pub number_of : (missing n read : ℕ) → List ℕ → ℕ
number_of missing zero read text = read
number_of missing (suc n) read [] = number_of missing n (read * 256 + missing) []
number_of missing (suc n) read (byte ∷ text) = number_of missing n (read * 256 + byte) text

-- the lowest key of a form that begins with the bytes, which is theirs as a form
abbrev pub low_key : List ℕ → ℕ
low_key bytes = number_of 0 8 0 bytes

-- the highest one
abbrev pub high_key : List ℕ → ℕ
high_key bytes = number_of 255 8 0 bytes

-- the key of an entry
abbrev pub key_of : Entry → ℕ
key_of entry = low_key entry.form

-- 0, 1 or 2 where the key is below two others, between them or above
abbrev pub key_rank : (low high key : ℕ) → ℕ
key_rank low high key = cond (nat_lt key low) 0 (cond (nat_le key high) 1 2)

-- the entry's key lies between the two
abbrev pub is_between : (low high : ℕ) → Entry → Bool
is_between low high entry = key_rank low high (key_of entry) == 1
