-- The text of a file, and when a file is refused. Public: the crate's public contracts speak of
-- it.
use Rattle.std.specs.Prelude.{◌≡◌, ℕ, ◌+◌, List, [], ◌∷◌, ◌++◌, true, length, drop, Option, None, ⊤}
use Rattle.std.specs.Str.{IsUtf8, encode_utf8_all, all_scalars}
use Rattle.std.specs.Str.Lossy.{utf8_valid_len}
use Rattle.std.specs.Char.Utf16.{utf16_chars}
use Rattle.ux_decode.specs.Encoding.{encoding_of, body_of, units_of, spelled}
use Rattle.ux_decode.specs.declared.encoding.Encoding.{Encoding}
use Rattle.ux_decode.specs.declared.encoding.Encoding.TheVariants.{Utf8, MarkedUtf8, Utf16}
use Rattle.ux_decode.specs.declared.encoding.Order.{Order}
use Rattle.ux_decode.specs.declared.error.DecodeError.{DecodeError}
use Rattle.ux_decode.specs.declared.error.DecodeError.TheVariants.{BadUtf8, LoneSurrogate, OddLength, NoMemory}

-- the bytes are the text's characters in the encoding, and then the rest
pub record Spells (encoding : Encoding) (bytes text rest : List ℕ) : Type 0 where
  pub characters : List ℕ
  pub scalars : all_scalars characters ≡ true
  pub text_is : text ≡ encode_utf8_all characters
  pub bytes_are : bytes ≡ spelled encoding characters ++ rest

-- behind its mark the file is the text's characters, in the encoding that the mark names
abbrev pub IsTextOf : (file text : List ℕ) → Type 0
IsTextOf file text = Spells (encoding_of file) (body_of file) text []

-- the unit before these units is a surrogate without a partner
abbrev pub IsLone : ℕ → List ℕ → Type 0
IsLone unit units = (later : List (Option ℕ)) × (utf16_chars (unit ∷ units) ≡ None ∷ later)

-- the first unit of the bytes is a surrogate without a partner
abbrev pub BeginsLone : Order → List ℕ → Type 0
BeginsLone order bytes =
    (later : List (Option ℕ)) × (utf16_chars (units_of order bytes) ≡ None ∷ later)

-- the file has whole characters of UTF-16 behind its mark, and then, from the place on, the rest
pub record StopsAt (order : Order) (file : List ℕ) (place : ℕ) (rest : List ℕ) : Type 0 where
  pub text : List ℕ
  pub spells : Spells (Utf16 order) (drop 2 file) text rest
  pub place_is : place + length rest ≡ length file

-- UTF-16 is refused where whole characters are followed by a surrogate without a partner, or else by
-- half a unit; want of memory may come at any file
abbrev pub RefusesUtf16 : Order → (file : List ℕ) → DecodeError → Type 0
RefusesUtf16 order file (BadUtf8 place) = ⊥
RefusesUtf16 order file (LoneSurrogate place) =
    (rest : List ℕ) × StopsAt order file place rest × BeginsLone order rest
RefusesUtf16 order file OddLength = (place half : ℕ) × StopsAt order file place (half ∷ [])
RefusesUtf16 order file NoMemory = ⊤

-- what stands behind a mark of so many bytes is refused as UTF-8 where its longest front ends that
-- is UTF-8; this takes no memory
abbrev pub RefusesUtf8 : (mark : ℕ) (body : List ℕ) → DecodeError → Type 0
RefusesUtf8 mark body (BadUtf8 place) = (¬ (IsUtf8 body)) × (place ≡ mark + utf8_valid_len body)
RefusesUtf8 mark body (LoneSurrogate place) = ⊥
RefusesUtf8 mark body OddLength = ⊥
RefusesUtf8 mark body NoMemory = ⊥

-- when each error comes for a file in this encoding
abbrev pub RefusesIn : Encoding → (file : List ℕ) → DecodeError → Type 0
RefusesIn Utf8 file error = RefusesUtf8 0 file error
RefusesIn MarkedUtf8 file error = RefusesUtf8 3 (drop 3 file) error
RefusesIn (Utf16 order) file error = RefusesUtf16 order file error

-- when each error comes, and with which place
abbrev pub Refuses : (file : List ℕ) → DecodeError → Type 0
Refuses file error = RefusesIn (encoding_of file) file error
