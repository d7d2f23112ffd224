-- Which spans of a text each mask accepts. The manual, on lexical masks. Public: the crate's public
-- contracts speak of it.
use Rattle.std.specs.Prelude.{◌≡◌, ◌⊎◌, ℕ, ◌+◌, ◌<◌, ◌≤◌, List, [], ◌∷◌, Some, All, Contains, slice_get}
use Rattle.std.specs.Str.{chars}
use Rattle.ux_alphabet.specs.Letters.{Letters, IsLower, IsUpper}
use Rattle.ux_dela.specs.declared.entry.Entry.{Entry}
use Rattle.ux_masks.specs.Meets.{MeetsParts}
use Rattle.ux_masks.specs.declared.lexical.Parts.{Parts}
use Rattle.ux_masks.specs.declared.mask.Mask.{Mask}
use Rattle.ux_masks.specs.declared.mask.Mask.TheVariants as mask
use Rattle.ux_tokens.specs.declared.kind.Kind.{Kind}
use Rattle.ux_tokens.specs.declared.kind.Kind.TheVariants.{Word, Other, Sentence, Tag}
use Rattle.ux_tokens.specs.Tokens.{Token}
use Rattle.ux_lexical_tables.specs.Spans.{MayBound}
use Rattle.ux_lexical_tables.specs.Tables.{Tables}

-- a token of this kind is one that `<TOKEN>` accepts
abbrev pub IsTokenKind : Kind → Type 0
IsTokenKind Word = Unit {0}
IsTokenKind Other = Unit {0}
IsTokenKind Sentence = Unit {0}
IsTokenKind Tag = Unit {0}
IsTokenKind _ = ⊥

-- the token is a word or another character, and one digit from 0 to 9
abbrev pub IsDigit : Token → Type 0
IsDigit token = MayBound token.kind
    × ((digit : ℕ) × (48 ≤ digit) × (digit ≤ 57) × (token.text ≡ digit ∷ []))

-- the first character of a text is so
abbrev pub BeginsSo : (ℕ → Type 0) → List ℕ → Type 0
BeginsSo IsSo [] = ⊥
BeginsSo IsSo (c ∷ rest) = IsSo c

-- a word of which it is so
abbrev pub IsWordSo : (List ℕ → Type 0) → Token → Type 0
IsWordSo IsSo token = (token.kind ≡ Word) × IsSo (chars token.text)

-- any entry will do
abbrev pub IsAny : Entry → Type 0
IsAny entry = Unit {0}

-- a digit stands at a place
abbrev pub IsDigitAt : List Token → (place : ℕ) → Type 0
IsDigitAt tokens place = (token : Token) × (slice_get tokens place ≡ Some token) × IsDigit token

module _ (tokens : List Token) (i : ℕ) where
  -- one token, at i, of which it is so
  abbrev pub IsOne : (Token → Type 0) → ℕ → Type 0
  IsOne IsSo k = (token : Token) × (slice_get tokens i ≡ Some token) × IsSo token × (k ≡ i + 1)

  -- all digits that follow each other from i on, at least one
  pub record AreDigits (k : ℕ) : Type 0 where
    pub some : i < k
    pub each : (place : ℕ) → i ≤ place → place < k → IsDigitAt tokens place
    pub all : IsDigitAt tokens k → ⊥

  module _ (tables : Tables) where
    -- the token at i has a simple entry that is so
    abbrev pub HasSimple : (Entry → Type 0) → Type 0
    HasSimple IsSo = (row : List Entry) × (slice_get tables.simple i ≡ Some row)
        × (entry : Entry) × Contains row entry × IsSo entry

    -- the span from i up to k, or the tag at i, has a compound entry that is so
    abbrev pub HasCompound : (Entry → Type 0) → ℕ → Type 0
    HasCompound IsSo k = (row : List (ℕ × Entry)) × (slice_get tables.compounds i ≡ Some row)
        × (last : ℕ) × (entry : Entry) × Contains row (last, entry) × IsSo entry × (k ≡ last + 1)

    -- the token at i has an entry alone that is so
    abbrev pub HasOwn : (Entry → Type 0) → Type 0
    HasOwn IsSo = HasSimple IsSo ⊎ HasCompound IsSo (i + 1)

    -- the mask of these parts accepts the span from i up to k
    abbrev pub AcceptsParts : Parts → ℕ → Type 0
    AcceptsParts parts k =
        (HasSimple (MeetsParts parts) × (k ≡ i + 1)) ⊎ HasCompound (MeetsParts parts) k

    -- so does its negation: a word without a simple entry that meets it, or a tag whose entry doesn't
    abbrev pub RefusesParts : Parts → ℕ → Type 0
    RefusesParts parts k =
        (IsOne (λ token. token.kind ≡ Word) k × (HasSimple (MeetsParts parts) → ⊥))
        ⊎ (IsOne (λ token. token.kind ≡ Tag) k × (HasOwn (MeetsParts parts) → ⊥))

    -- the mask accepts the tokens from i up to k
    abbrev pub AcceptsAt : Letters → Mask → ℕ → Type 0
    AcceptsAt alphabet mask.Word k = IsOne (λ token. token.kind ≡ Word) k
    AcceptsAt alphabet mask.NotWord k = IsOne (λ token. token.kind ≡ Other) k
    AcceptsAt alphabet mask.Lower k = IsOne (IsWordSo (All (IsLower alphabet))) k
    AcceptsAt alphabet mask.NotLower k =
        IsOne (IsWordSo (λ text. All (IsLower alphabet) text → ⊥)) k
    AcceptsAt alphabet mask.Upper k = IsOne (IsWordSo (All (IsUpper alphabet))) k
    AcceptsAt alphabet mask.NotUpper k =
        IsOne (IsWordSo (λ text. All (IsUpper alphabet) text → ⊥)) k
    AcceptsAt alphabet mask.First k = IsOne (IsWordSo (BeginsSo (IsUpper alphabet))) k
    AcceptsAt alphabet mask.NotFirst k =
        IsOne (IsWordSo (λ text. BeginsSo (IsUpper alphabet) text → ⊥)) k
    AcceptsAt alphabet mask.Dic k = (HasSimple IsAny × (k ≡ i + 1)) ⊎ HasCompound IsAny k
    AcceptsAt alphabet mask.NotDic k =
        IsOne (λ token. token.kind ≡ Word) k × (HasSimple IsAny → ⊥)
    AcceptsAt alphabet mask.SDic k = HasSimple IsAny × (k ≡ i + 1)
    AcceptsAt alphabet mask.NotSDic k =
        IsOne (λ token. token.kind ≡ Word) k × (HasSimple IsAny → ⊥)
    AcceptsAt alphabet mask.CDic k = HasCompound IsAny k
    AcceptsAt alphabet mask.TDic k = IsOne (λ token. token.kind ≡ Tag) k
    AcceptsAt alphabet mask.Nb k = AreDigits k
    AcceptsAt alphabet mask.Token k = IsOne (λ token. IsTokenKind token.kind) k
    AcceptsAt alphabet (mask.Lexical parts) k = AcceptsParts parts k
    AcceptsAt alphabet (mask.NotLexical parts) k = RefusesParts parts k

-- the mask accepts the tokens from one position up to another, by the entries of the text
abbrev pub Accepts : Letters → List Token → Tables → Mask → (from to : ℕ) → Type 0
Accepts alphabet tokens tables mask from to = AcceptsAt tokens from tables alphabet mask to

-- no span of several tokens that a mask may accept begins at i: no entry there has a later last
-- token, and no digit stands there
pub record IsAlone (tokens : List Token) (tables : Tables) (i : ℕ) : Type 0 where
  pub no_span : (row : List (ℕ × Entry)) (last : ℕ) (entry : Entry) →
      slice_get tables.compounds i ≡ Some row → Contains row (last, entry) → last ≤ i
  pub no_digit : IsDigitAt tokens i → ⊥
