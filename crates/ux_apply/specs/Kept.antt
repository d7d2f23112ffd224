-- What is kept of a text's entries, and how it is collected. Inner: the crate's own functions alone
-- speak of it.
use Rattle.std.specs.Prelude.{◌≡◌, ◌≢◌, ◌⊎◌, ℕ, ◌+◌, ◌<◌, ◌≤◌, List, [], ◌∷◌, ◌++◌, Option, None, Some, All, IsSomeAnd, IsUtf8, Vec, slice_get}
use Rattle.std.specs.BTreeMap.{BTreeMap}
use Rattle.ux_alphabet.specs.Letters.{Letters}
use Rattle.ux_dela.specs.Sound.{IsSound}
use Rattle.ux_dela.specs.declared.entry.Entry.{Entry}
use Rattle.ux_dict.specs.Forms.{IsFitting, MayBegin}
use Rattle.ux_tokens.specs.declared.kind.Kind.TheVariants.{Word, Space}
use Rattle.ux_tokens.specs.Tokens.{Token, SPACE}
use Rattle.ux_tokens.specs.Numbers.{different_texts}
use Rattle.ux_lexical_tables.specs.Kept.{row_of}
use Rattle.ux_lexical_tables.specs.Spans.{MayBound, MayStand}
use Rattle.ux_lexical_tables.specs.Tables.{AreOwnSimple}
use Rattle.ux_apply.specs.declared.priority.Priority.{Priority}
use Rattle.ux_apply.specs.declared.starts.Start.{Start}
use Rattle.ux_apply.specs.declared.starts.Start.TheVariants.{Never, Unspaced, Spaced}
use Rattle.ux_apply.specs.Applied.{AreOfSpan}

-- the entries with those of a content that fit the text
pub record AreAdded (alphabet : Letters) (text : List ℕ) (content old new : List Entry) :
    Type 0 where
  pub more : List Entry
  pub fit : IsFitting alphabet text content more
  pub added : new ≡ old ++ more

-- each compound entry of a row is sound
abbrev pub AreSoundMembers : List (ℕ × Entry) → Type 0
AreSoundMembers row = All (λ member. IsSound member.1) row

-- no form of any dictionary begins with characters that fit the text
abbrev pub NoneBegins : Letters → List (Priority × List Entry) → (text : List ℕ) → Type 0
NoneBegins alphabet dics text = All (λ dic. MayBegin alphabet text dic.1 → ⊥) dics

-- the token at the place has the text
abbrev pub HasText : List Token → (text : List ℕ) (place : ℕ) → Type 0
HasText tokens text place = IsSomeAnd (slice_get tokens place) (λ token. text ≡ token.text)

-- no form begins with the text, or none with a space behind it, or some may
abbrev pub IsStart : Letters → List (Priority × List Entry) → (text : List ℕ) → Start → Type 0
IsStart alphabet dics text Never = IsUtf8 text × NoneBegins alphabet dics text
IsStart alphabet dics text Unspaced =
    IsUtf8 (text ++ SPACE ∷ []) × NoneBegins alphabet dics (text ++ SPACE ∷ [])
IsStart alphabet dics text Spaced = Unit {0}

-- a space stands at the place
abbrev pub IsSpaceAt : List Token → (place : ℕ) → Type 0
IsSpaceAt tokens place =
    IsSomeAnd (slice_get tokens place) (λ token. (Space ≡ token.kind) × (SPACE ∷ [] ≡ token.text))

-- no form begins with the token, or none with the space behind it
abbrev pub IsOver : List Token → (first : ℕ) → Start → Type 0
IsOver tokens first Never = Unit {0}
IsOver tokens first Unspaced = IsSpaceAt tokens (first + 1)
IsOver tokens first Spaced = ⊥

-- the token is the next one, or the one behind a space
abbrev pub IsNearestLast : List Token → (first last : ℕ) → Type 0
IsNearestLast tokens first last =
    (last ≡ first + 1) ⊎ ((last ≡ first + 2) × IsSpaceAt tokens (first + 1))

-- the tokens before the place may be the front of a span that begins at the first one
pub record IsFront (tokens : List Token) (first place : ℕ) : Type 0 where
  pub begins : IsSomeAnd (slice_get tokens first) (λ token. MayBound token.kind)
  pub inside : (i : ℕ) → first ≤ i → i < place →
      IsSomeAnd (slice_get tokens i) (λ token. MayStand token.kind)

-- no span from the first token to the last one or a later one has an entry
abbrev pub HaveNone : Letters → List (Priority × List Entry) → List Token →
    (first last : ℕ) → Type 0
HaveNone alphabet dics tokens first last =
    (later : ℕ) → last ≤ later → AreOfSpan alphabet dics tokens first later []

-- the word at a place has the number, and where none is kept, no word stands there
abbrev pub IsWordNumber : List Token → Token → Option ℕ → Type 0
IsWordNumber tokens token None = token.kind ≢ Word
IsWordNumber tokens token (Some number) =
    (token.kind ≡ Word) × (slice_get (different_texts tokens) number ≡ Some token.text)

-- the row has the own simple entry of the token at the place
abbrev pub IsOwnRow : Letters → List Token → (place : ℕ) → List Entry → Type 0
IsOwnRow alphabet tokens place row =
    IsSomeAnd (slice_get tokens place) (λ token. AreOwnSimple alphabet token.kind token.text row)

-- the rows of the places before one are such rows, and the others are empty
pub record AreRowsUpTo {X Z : Type 0} (IsRow : ℕ → List X → Type 0) (place : ℕ)
    (rows : BTreeMap ℕ (Vec X Z)) : Type 0 where
  pub each : (first : ℕ) → first < place → IsRow first (row_of rows first)
  pub others : (first : ℕ) → place ≤ first → row_of rows first ≡ []
