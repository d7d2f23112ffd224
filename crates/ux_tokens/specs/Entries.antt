-- The entries of a text's tags, by the numbers of their tokens: for inner functions alone.
use Rattle.std.specs.Prelude.{◌≡◌, ◌⊎◌, ℕ, ◌<◌, List, Some, length, slice_get}
use Rattle.std.specs.BTreeMap.{BTreeMap, get}
use Rattle.std.specs.Ordering.{nat_cmp}
use Rattle.ux_dela.specs.Sound.{IsSound}
use Rattle.ux_dela.specs.declared.entry.Entry.{Entry}
use Rattle.ux_tokens.specs.declared.kind.Kind.TheVariants.{Tag}
use Rattle.ux_tokens.specs.declared.piece.Piece.{Piece}
use Rattle.ux_tokens.specs.Tokens.{IsTag}
use Rattle.ux_tokens.specs.Numbers.{different_texts}
use Rattle.ux_tokens.specs.Pieces.{tokens_from}

-- the entry is that of the tag
abbrev pub IsEntryOf : List ℕ → Entry → Type 0
IsEntryOf tag entry = IsTag tag entry × IsSound entry

-- there is an entry with the number
abbrev pub HasEntry : BTreeMap ℕ Entry → ℕ → Type 0
HasEntry entries number = (entry : Entry) × (get nat_cmp entries number ≡ Some entry)

-- each entry is that of the text with its number
abbrev pub AreRight : List (List ℕ) → BTreeMap ℕ Entry → Type 0
AreRight different entries = (number : ℕ) (entry : Entry) (text : List ℕ) →
    get nat_cmp entries number ≡ Some entry → slice_get different number ≡ Some text →
    IsEntryOf text entry

-- each tag of the first pieces has an entry
abbrev pub HaveEntries : List Piece → ℕ → BTreeMap ℕ Entry → Type 0
HaveEntries pieces end entries = (k : ℕ) (piece : Piece) → k < end →
    slice_get pieces k ≡ Some piece → piece.kind ≡ Tag → HasEntry entries piece.number

-- the entries are those of the text's tags
pub record AreEntriesOf (text : List ℕ) (pieces : List Piece) (entries : BTreeMap ℕ Entry) :
    Type 0 where
  pub right : AreRight (different_texts (tokens_from text 0 pieces)) entries
  pub all : HaveEntries pieces (length pieces) entries

-- the entry of a tag is put with its number, unless there is one
pub record IsPutEntry (old new : BTreeMap ℕ Entry) (number : ℕ) (tag : List ℕ) : Type 0 where
  pub there : HasEntry new number
  pub stay : (n : ℕ) → HasEntry old n → HasEntry new n
  pub each : (n : ℕ) (entry : Entry) → get nat_cmp new n ≡ Some entry →
      (get nat_cmp old n ≡ Some entry) ⊎ ((n ≡ number) × IsEntryOf tag entry)
