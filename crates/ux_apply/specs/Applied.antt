-- Which entries of dictionaries apply to the tokens and spans of a text. The manual, on applying
-- dictionaries. Public: the crate's public contracts speak of it.
use Rattle.std.specs.Prelude.{◌≡◌, ℕ, ◌+◌, List, [], ◌++◌, Some, IsSomeAnd, length, slice_get}
use Rattle.std.specs.List.{AllZip}
use Rattle.ux_alphabet.specs.Letters.{Letters}
use Rattle.ux_dela.specs.declared.entry.Entry.{Entry}
use Rattle.ux_tokens.specs.declared.kind.Kind.{Kind}
use Rattle.ux_tokens.specs.declared.kind.Kind.TheVariants.{Word, Space, Other, Sentence, Stop, Tag}
use Rattle.ux_tokens.specs.Tokens.{Token}
use Rattle.ux_lexical_tables.specs.Spans.{IsSpan, text_of}
use Rattle.ux_lexical_tables.specs.Tables.{Tables, AreOwnCompound, AreUnknown, IsOwnSimple, with_lasts}
use Rattle.ux_apply.specs.declared.priority.Priority.{Priority}
use Rattle.ux_apply.specs.Applying.{AreApplying}

module _ (alphabet : Letters) (dics : List (Priority × List Entry)) where
  -- a word has the simple entries that apply to its text, a tag its own, and another token has none
  abbrev pub AreSimpleOf : Kind → (text : List ℕ) → List Entry → Type 0
  AreSimpleOf Word text entries = AreApplying alphabet dics text entries
  AreSimpleOf Space text entries = entries ≡ []
  AreSimpleOf Other text entries = entries ≡ []
  AreSimpleOf Sentence text entries = entries ≡ []
  AreSimpleOf Stop text entries = entries ≡ []
  AreSimpleOf Tag text entries = IsOwnSimple alphabet text entries

  -- each token has its simple entries
  abbrev pub AreSimple : List Token → List (List Entry) → Type 0
  AreSimple tokens rows = AllZip (λ token entries. AreSimpleOf token.kind token.text entries) tokens rows

module _ (alphabet : Letters) (dics : List (Priority × List Entry)) (tokens : List Token)
    (first : ℕ) where
  -- a span has the entries that apply to its text, and other neighbouring tokens have none
  pub record AreOfSpan (last : ℕ) (entries : List Entry) : Type 0 where
    pub applying : IsSpan tokens first last →
        AreApplying alphabet dics (text_of tokens first last) entries
    pub none : (IsSpan tokens first last → ⊥) → entries ≡ []

  -- the row has the token's own compound entry, and then the entries of the longer spans that begin
  -- there: one list for each later token as the last one, as far as an end
  pub record AreCompoundUpTo (end : ℕ) (row : List (ℕ × Entry)) : Type 0 where
    pub own : List (ℕ × Entry)
    pub spans : List (List Entry)
    pub of_token : IsSomeAnd (slice_get tokens first)
        (λ token. AreOwnCompound alphabet token.kind token.text first own)
    pub of_spans : (i : ℕ) (entries : List Entry) → slice_get spans i ≡ Some entries →
        AreOfSpan (first + 1 + i) entries
    pub up_to : first + 1 + length spans ≡ end
    pub row_is : row ≡ own ++ with_lasts (first + 1) spans

module _ (alphabet : Letters) (dics : List (Priority × List Entry)) (tokens : List Token) where
  -- the row has the compound entries that begin at a token
  abbrev pub IsCompoundRow : (first : ℕ) (row : List (ℕ × Entry)) → Type 0
  IsCompoundRow first row = AreCompoundUpTo alphabet dics tokens first (length tokens) row

  -- each token has the compound entries that begin there
  pub record AreCompounds (rows : List (List (ℕ × Entry))) : Type 0 where
    pub each_token : length rows ≡ length tokens
    pub each : (first : ℕ) (row : List (ℕ × Entry)) → slice_get rows first ≡ Some row →
        IsCompoundRow first row

-- the tables are those of the dictionaries over the tokens
pub record AreApplied (alphabet : Letters) (dics : List (Priority × List Entry))
    (tokens : List Token) (tables : Tables) : Type 0 where
  pub simple : AreSimple alphabet dics tokens tables.simple
  pub compounds : AreCompounds alphabet dics tokens tables.compounds
  pub unknown : AreUnknown tokens tables.simple tables.unknown
