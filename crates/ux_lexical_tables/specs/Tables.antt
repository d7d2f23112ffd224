-- What dictionaries have for the tokens and spans of a text, as tables. The manual, on applying
-- dictionaries. Public: the crate's public contracts speak of it.
use Rattle.std.specs.Prelude.{◌≡◌, ◌↔◌, ℕ, ◌+◌, List, [], ◌∷◌, ◌++◌, Some, All, Contains, map, slice_get}
use Rattle.std.specs.List.Sorted.{IsStrictlyIncreasing}
use Rattle.std.specs.Str.{chars}
use Rattle.ux_alphabet.specs.Letters.{Letters, IsLetter}
use Rattle.ux_dela.specs.declared.entry.Entry.{Entry}
use Rattle.ux_tokens.specs.declared.kind.Kind.{Kind}
use Rattle.ux_tokens.specs.declared.kind.Kind.TheVariants.{Word, Space, Other, Sentence, Stop, Tag}
use Rattle.ux_tokens.specs.Tokens.{Token, IsTag}
use Rattle.ux_tokens.specs.Numbers.{different_texts}

-- the entries of a text: a row of simple ones and a row of compound ones for each token, these with
-- their last tokens, and the numbers of the unknown words
pub record Tables : Type 0 where
  pub simple : List (List Entry)
  pub compounds : List (List (ℕ × Entry))
  pub unknown : List ℕ

-- the form of the entry has letters alone
abbrev pub IsSimpleForm : Letters → Entry → Type 0
IsSimpleForm alphabet entry = All (IsLetter alphabet) (chars entry.form)

-- the entry of a tag is its simple one, if the form has letters alone
pub record IsOwnSimple (alphabet : Letters) (text : List ℕ) (entries : List Entry) : Type 0 where
  pub entry : Entry
  pub tag : IsTag text entry
  pub letters : IsSimpleForm alphabet entry → entries ≡ entry ∷ []
  pub others : (IsSimpleForm alphabet entry → ⊥) → entries ≡ []

-- and otherwise it is its compound one, with the tag as its last token
pub record IsOwnCompound (alphabet : Letters) (text : List ℕ) (place : ℕ)
    (row : List (ℕ × Entry)) : Type 0 where
  pub entry : Entry
  pub tag : IsTag text entry
  pub letters : IsSimpleForm alphabet entry → row ≡ []
  pub others : (IsSimpleForm alphabet entry → ⊥) → row ≡ (place, entry) ∷ []

-- a tag has its own simple entry, and another token has none
abbrev pub AreOwnSimple : Letters → Kind → (text : List ℕ) → List Entry → Type 0
AreOwnSimple alphabet Word text entries = entries ≡ []
AreOwnSimple alphabet Space text entries = entries ≡ []
AreOwnSimple alphabet Other text entries = entries ≡ []
AreOwnSimple alphabet Sentence text entries = entries ≡ []
AreOwnSimple alphabet Stop text entries = entries ≡ []
AreOwnSimple alphabet Tag text entries = IsOwnSimple alphabet text entries

-- a tag has its own compound entry, and another token has none
abbrev pub AreOwnCompound : Letters → Kind → (text : List ℕ) → (place : ℕ) →
    List (ℕ × Entry) → Type 0
AreOwnCompound alphabet Word text place row = row ≡ []
AreOwnCompound alphabet Space text place row = row ≡ []
AreOwnCompound alphabet Other text place row = row ≡ []
AreOwnCompound alphabet Sentence text place row = row ≡ []
AreOwnCompound alphabet Stop text place row = row ≡ []
AreOwnCompound alphabet Tag text place row = IsOwnCompound alphabet text place row

-- each entry with the last token of its span: those of the first list have this one, those of the
-- second list the next one, and so on
abbrev pub with_lasts : (last : ℕ) (spans : List (List Entry)) → List (ℕ × Entry)
with_lasts last [] = []
with_lasts last (entries ∷ spans) =
    map (λ entry. (last, entry)) entries ++ with_lasts (last + 1) spans

module _ (tokens : List Token) (simple : List (List Entry)) where
  -- a word of this number has no simple entry
  pub record IsUnknown (number : ℕ) : Type 0 where
    pub place : ℕ
    pub token : Token
    pub stands : slice_get tokens place ≡ Some token
    pub word : token.kind ≡ Word
    pub numbered : slice_get (different_texts tokens) number ≡ Some token.text
    pub none : slice_get simple place ≡ Some []

  -- the numbers are those of the unknown words, each once and ascending
  pub record AreUnknown (numbers : List ℕ) : Type 0 where
    pub ascending : IsStrictlyIncreasing numbers
    pub exact : (number : ℕ) → Contains numbers number ↔ IsUnknown number
