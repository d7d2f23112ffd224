-- Which list of tokens a text has: the crate's public meaning. The manual, on tokenising.
use Rattle.std.specs.Prelude.{◌≡◌, ◌≢◌, ◌⊎◌, ℕ, ◌+◌, List, [], ◌∷◌, ◌++◌, Bool, true, false, if◌then◌else◌, All, Some, codes, length, drop, slice_get, encode_utf8}
use Rattle.std.specs.Str.{IsUtf8, chars}
use Rattle.ux_alphabet.specs.Letters.{Letters, is_separator, IsLetter}
use Rattle.ux_dela.specs.Tag.{IsTagBody}
use Rattle.ux_dela.specs.declared.entry.Entry.{Entry}
use Rattle.ux_tokens.specs.declared.kind.Kind.{Kind}
use Rattle.ux_tokens.specs.declared.kind.Kind.TheVariants.{Word, Space, Other, Sentence, Stop, Tag}

-- a token, with the bytes of its text
pub record Token : Type 0 where
  pub kind : Kind
  pub text : List ℕ

abbrev pub SPACE : ℕ
SPACE = 32

abbrev pub OPENING_BRACE : ℕ
OPENING_BRACE = 123

abbrev pub CLOSING_BRACE : ℕ
CLOSING_BRACE = 125

-- the mark of a sentence's end
abbrev pub SENTENCE : List ℕ
SENTENCE = codes "{S}"

-- the mark that nothing matches
abbrev pub STOP : List ℕ
STOP = codes "{STOP}"

-- the text is the tag of this entry
abbrev pub IsTag : List ℕ → Entry → Type 0
IsTag text entry = (body : List ℕ) × (text ≡ OPENING_BRACE ∷ (body ++ CLOSING_BRACE ∷ []))
    × IsTagBody body entry

-- the text is one of the two marks, or a tag
abbrev pub IsMark : List ℕ → Type 0
IsMark text = (text ≡ SENTENCE) ⊎ ((text ≡ STOP) ⊎ ((entry : Entry) × IsTag text entry))

-- a mark stands at the front
abbrev pub BeginsWithMark : List ℕ → Type 0
BeginsWithMark text = (mark : List ℕ) × (rest : List ℕ) × (text ≡ mark ++ rest) × IsMark mark

-- a tag stands at the front
abbrev pub BeginsWithTag : List ℕ → Type 0
BeginsWithTag text =
    (tag : List ℕ) × (rest : List ℕ) × (entry : Entry) × (text ≡ tag ++ rest) × IsTag tag entry

-- a separator stands at the front
abbrev pub begins_with_separator : List ℕ → Bool
begins_with_separator [] = false
begins_with_separator (b ∷ rest) = is_separator b

-- the text in which each longest run of separators is one space
abbrev pub with_single_spaces : List ℕ → List ℕ
with_single_spaces [] = []
with_single_spaces (b ∷ rest) =
    if is_separator b
    then (if begins_with_separator rest then with_single_spaces rest
    else SPACE ∷ with_single_spaces rest)
    else b ∷ with_single_spaces rest

-- a word: letters, one or more, and only one where the alphabet is single
pub record IsWord (alphabet : Letters) (text : List ℕ) : Type 0 where
  pub some : text ≢ []
  pub utf8 : IsUtf8 text
  pub letters : All (IsLetter alphabet) (chars text)
  pub one : alphabet.single ≡ true → length (chars text) ≡ 1

-- what may stand as a token of each kind, by the letters of the alphabet
abbrev pub IsTokenText : Letters → Kind → List ℕ → Type 0
IsTokenText alphabet Word text = IsWord alphabet text
IsTokenText alphabet Space text = text ≡ SPACE ∷ []
IsTokenText alphabet Other text =
    (c : ℕ) × (text ≡ encode_utf8 c) × (IsLetter alphabet c → ⊥) × (c ≢ SPACE)
IsTokenText alphabet Sentence text = text ≡ SENTENCE
IsTokenText alphabet Stop text = text ≡ STOP
IsTokenText alphabet Tag text = (entry : Entry) × IsTag text entry

-- the texts of the tokens, one after the other
abbrev pub joined : List Token → List ℕ
joined [] = []
joined (token ∷ tokens) = token.text ++ joined tokens

-- the text is cut into these tokens, and no word is cut in two, unless the alphabet is single
pub record AreCut (alphabet : Letters) (text : List ℕ) (tokens : List Token) : Type 0 where
  pub whole : joined tokens ≡ text
  pub each : All (λ token. IsTokenText alphabet token.kind token.text) tokens
  pub apart : alphabet.single ≡ false → (k : ℕ) (a b : Token) → slice_get tokens k ≡ Some a →
      slice_get tokens (k + 1) ≡ Some b → a.kind ≡ Word → b.kind ≢ Word

-- the same, and no mark is cut after its brace
pub record AreCutAtMarks (alphabet : Letters) (text : List ℕ) (tokens : List Token) : Type 0 where
  pub cut : AreCut alphabet text tokens
  pub marks : (k : ℕ) (a : Token) → slice_get tokens k ≡ Some a → a.text ≡ OPENING_BRACE ∷ [] →
      BeginsWithMark (joined (drop k tokens)) → ⊥

-- the tokens are those of the text
abbrev pub AreTokens : Letters → List ℕ → List Token → Type 0
AreTokens alphabet text tokens = AreCutAtMarks alphabet (with_single_spaces text) tokens

-- the kinds of tokens of a text in which a brace is a character as any other
abbrev pub IsPlain : Kind → Type 0
IsPlain Word = Unit {0}
IsPlain Space = Unit {0}
IsPlain Other = Unit {0}
IsPlain Sentence = ⊥
IsPlain Stop = ⊥
IsPlain Tag = ⊥

-- the text is cut into these tokens, of which none is a mark
pub record AreCutPlainly (alphabet : Letters) (text : List ℕ) (tokens : List Token) : Type 0 where
  pub cut : AreCut alphabet text tokens
  pub plain : All (λ token. IsPlain token.kind) tokens

-- the tokens are those of a text of a graph, in which a brace is a character as any other
abbrev pub ArePlainTokens : Letters → List ℕ → List Token → Type 0
ArePlainTokens alphabet text tokens = AreCutPlainly alphabet (with_single_spaces text) tokens
