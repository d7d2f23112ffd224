-- How the parts of a dictionary line are written: each character bare or behind a backslash.
-- Public: the crate's public contracts speak of it.
use Rattle.std.specs.Prelude.{◌≡◌, ℕ, ◌==◌, Bool, false, ◌||◌, List, [], ◌∷◌, ◌++◌, if◌then◌else◌}
use Rattle.ux_dela.specs.Signs.{BACKSLASH, EQUALS, is_equals}

-- a byte of a part as it is written: bare, or behind a backslash, which protects a whole character
-- since it stands before its first byte
pub data Written : Type 0 where
  bare : ℕ → Written
  protected : ℕ → Written

-- the bytes by which a part is written
abbrev pub written : List Written → List ℕ
written [] = []
written (bare b ∷ part) = b ∷ written part
written (protected b ∷ part) = BACKSLASH ∷ (b ∷ written part)

-- the byte itself, or this sign for a bare `=`
abbrev pub byte_as : (sign b : ℕ) → ℕ
byte_as sign b = if is_equals b then sign else b

-- the bytes that a part means, where a bare `=` means this sign
abbrev pub meant_as : ℕ → List Written → List ℕ
meant_as sign [] = []
meant_as sign (bare b ∷ part) = byte_as sign b ∷ meant_as sign part
meant_as sign (protected b ∷ part) = b ∷ meant_as sign part

-- the bytes that a part means, where `=` is a character as any other
abbrev pub meant : List Written → List ℕ
meant part = meant_as EQUALS part

-- what each part means
abbrev pub all_meant : List (List Written) → List (List ℕ)
all_meant [] = []
all_meant (part ∷ parts) = meant part ∷ all_meant parts

-- a bare byte with which the part can't go on: a backslash, or a sign at which it ends
abbrev pub is_end : (ℕ → Bool) → ℕ → Bool
is_end stops b = b == BACKSLASH || stops b

-- no bare byte of the part is a backslash or a sign at which it ends
abbrev pub IsPart : (ℕ → Bool) → List Written → Type 0
IsPart stops [] = Unit {0}
IsPart stops (bare b ∷ part) = (is_end stops b ≡ false) × IsPart stops part
IsPart stops (protected b ∷ part) = IsPart stops part

-- such a sign stands bare in the part
abbrev pub has_bare : (ℕ → Bool) → List Written → Bool
has_bare signs [] = false
has_bare signs (bare b ∷ part) = signs b || has_bare signs part
has_bare signs (protected b ∷ part) = has_bare signs part

-- the parts, with a bare sign before each
abbrev pub all_behind : ℕ → List (List Written) → List Written
all_behind sign [] = []
all_behind sign (part ∷ parts) = bare sign ∷ (part ++ all_behind sign parts)
