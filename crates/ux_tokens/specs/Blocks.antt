-- Blocks of plain bytes, which are cut into tokens byte by byte: for inner functions alone.
use Rattle.std.specs.Prelude.{◌≡◌, ◌≢◌, ℕ, ◌-◌, ◌<◌, List, [], ◌∷◌, Some, length, take, drop, slice_get, slice_index}
use Rattle.ux_alphabet.specs.Letters.{Letters, IsLetter}
use Rattle.ux_tokens.specs.declared.kind.Kind.{Kind}
use Rattle.ux_tokens.specs.declared.kind.Kind.TheVariants.{Word, Space, Other, Sentence, Stop, Tag}
use Rattle.ux_tokens.specs.Tokens.{SPACE, OPENING_BRACE}
use Rattle.ux_tokens.specs.First.{IsFront}

-- the byte is a token of this kind, or a letter of a word
abbrev pub IsClass : Letters → ℕ → Kind → Type 0
IsClass alphabet byte Word = IsLetter alphabet byte
IsClass alphabet byte Space = byte ≡ SPACE
IsClass alphabet byte Other = (IsLetter alphabet byte → ⊥) × (byte ≢ SPACE)
IsClass alphabet byte Sentence = ⊥
IsClass alphabet byte Stop = ⊥
IsClass alphabet byte Tag = ⊥

-- the kinds are those of the ASCII bytes
pub record AreClasses (alphabet : Letters) (kinds : List Kind) : Type 0 where
  pub all : length kinds ≡ 128
  pub each : (byte : ℕ) (kind : Kind) → slice_get kinds byte ≡ Some kind →
      IsClass alphabet byte kind

-- the byte is ASCII, and begins no mark
abbrev pub IsPlainByte : ℕ → Type 0
IsPlainByte byte = (byte < 128) × (byte ≢ OPENING_BRACE)

-- so many bytes at the front are plain
abbrev pub BeginsPlain : List ℕ → ℕ → Type 0
BeginsPlain text len = (k : ℕ) → k < len → IsPlainByte (slice_index text k)

-- the last of the places, or the start where there is none
abbrev pub last_from : ℕ → List ℕ → ℕ
last_from start [] = start
last_from start (end ∷ ends) = last_from end ends

-- the token at the front of what begins at a place ends at another one
abbrev pub IsTokenAt : Letters → List ℕ → (from end : ℕ) → Kind → Type 0
IsTokenAt alphabet text from end kind =
    (from < end) × IsFront alphabet (drop from text) kind (end - from)

-- tokens stand at the front of what begins at the start, one after the other
pub record AreFronts (alphabet : Letters) (text : List ℕ) (start : ℕ) (ends : List ℕ)
    (kinds : List Kind) : Type 0 where
  pub even : length kinds ≡ length ends
  pub each : (i end : ℕ) (kind : Kind) → slice_get ends i ≡ Some end →
      slice_get kinds i ≡ Some kind →
      IsTokenAt alphabet text (last_from start (take i ends)) end kind
