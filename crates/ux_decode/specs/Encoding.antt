-- The encoding that a file's mark names, and what characters are in each. Public, through
-- `Decoding`.
use Rattle.std.specs.Prelude.{◌≡◌, ℕ, ◌+◌, ◌*◌, ◌/◌, ◌%◌, ◌<◌, List, [], ◌∷◌, ◌++◌, drop, nat_eq, if◌then◌else◌}
use Rattle.std.specs.List.{starts_with, flat_map}
use Rattle.std.specs.Str.{encode_utf8_all}
use Rattle.std.specs.Char.Escape.{encode_utf16}
use Rattle.ux_decode.specs.declared.encoding.Encoding.{Encoding}
use Rattle.ux_decode.specs.declared.encoding.Encoding.TheVariants.{Utf8, MarkedUtf8, Utf16}
use Rattle.ux_decode.specs.declared.encoding.Order.{Order}
use Rattle.ux_decode.specs.declared.encoding.Order.TheVariants.{Little, Big}

-- the mark of UTF-16 with the less significant byte of a unit first
abbrev pub LITTLE_MARK : List ℕ
LITTLE_MARK = 0xFF ∷ 0xFE ∷ []

-- the mark of UTF-16 with the more significant byte first
abbrev pub BIG_MARK : List ℕ
BIG_MARK = 0xFE ∷ 0xFF ∷ []

-- the mark of UTF-8
abbrev pub UTF8_MARK : List ℕ
UTF8_MARK = 0xEF ∷ 0xBB ∷ 0xBF ∷ []

-- the encoding that the mark at a file's front names: UTF-8, where there is none
abbrev pub encoding_of : List ℕ → Encoding
encoding_of file =
    if starts_with nat_eq file LITTLE_MARK then Utf16 Little
    else (if starts_with nat_eq file BIG_MARK then Utf16 Big
    else (if starts_with nat_eq file UTF8_MARK then MarkedUtf8 else Utf8))

-- how many bytes the mark has
abbrev pub mark_len : Encoding → ℕ
mark_len Utf8 = 0
mark_len MarkedUtf8 = 3
mark_len (Utf16 order) = 2

-- the file behind its mark
abbrev pub body_of : List ℕ → List ℕ
body_of file = drop (mark_len (encoding_of file)) file

-- the unit that two bytes are
abbrev pub unit_of : Order → (first second : ℕ) → ℕ
unit_of Little first second = first + 256 * second
unit_of Big first second = 256 * first + second

-- the bytes two by two, as units; half a unit at the end is none
abbrev pub units_of : Order → List ℕ → List ℕ
units_of order [] = []
units_of order (half ∷ []) = []
units_of order (first ∷ (second ∷ bytes)) = unit_of order first second ∷ units_of order bytes

-- the two bytes of a unit
abbrev pub unit_bytes : Order → ℕ → List ℕ
unit_bytes Little unit = unit % 256 ∷ (unit / 256 ∷ [])
unit_bytes Big unit = unit / 256 ∷ (unit % 256 ∷ [])

-- a character in UTF-16, as bytes
abbrev pub char_bytes : Order → ℕ → List ℕ
char_bytes order c = flat_map (unit_bytes order) (encode_utf16 c)

-- characters in an encoding, as bytes
abbrev pub spelled : Encoding → List ℕ → List ℕ
spelled Utf8 characters = encode_utf8_all characters
spelled MarkedUtf8 characters = encode_utf8_all characters
spelled (Utf16 order) characters = flat_map (char_bytes order) characters

-- a unit begins the bytes, and the rest stands behind it
pub record BeginsUnit (order : Order) (bytes : List ℕ) (unit : ℕ) (rest : List ℕ) : Type 0 where
  pub bytes_are : bytes ≡ unit_bytes order unit ++ rest
  pub units_are : units_of order bytes ≡ unit ∷ units_of order rest
  pub small : unit < 0x1_0000
