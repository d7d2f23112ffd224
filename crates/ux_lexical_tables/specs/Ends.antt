-- How the positions are collected that a mask accepts from a token. Inner: the crate's own functions
-- alone speak of it.
use Rattle.std.specs.Prelude.{◌≡◌, ◌⊎◌, ◌↔◌, ℕ, ◌+◌, ◌<◌, ◌≤◌, List, [], ◌∷◌, ◌++◌, Option, None, Some, All, Contains, IsSomeAnd, slice_get}
use Rattle.std.specs.List.Sorted.{IsStrictlyIncreasing}
use denote.Ref.{Bor}
use Rattle.ux_alphabet.specs.Letters.{Letters, IsLower, IsUpper}
use Rattle.ux_dela.specs.declared.entry.Entry.{Entry}
use Rattle.ux_masks.specs.Meets.{MeetsParts}
use Rattle.ux_masks.specs.declared.lexical.Parts.{Parts}
use Rattle.ux_tokens.specs.Tokens.{Token}
use Rattle.ux_lexical_tables.specs.declared.spelling.Case.{Case}
use Rattle.ux_lexical_tables.specs.declared.spelling.Case.TheVariants.{Lower, Upper, First}
use Rattle.ux_lexical_tables.specs.Accepting.{BeginsSo}

-- the characters are of the case: lower-case or upper-case ones alone, or an upper-case one first
abbrev pub IsOfCase : Letters → Case → List ℕ → Type 0
IsOfCase alphabet Lower text = All (IsLower alphabet) text
IsOfCase alphabet Upper text = All (IsUpper alphabet) text
IsOfCase alphabet First text = BeginsSo (IsUpper alphabet) text

-- the token at the place is so
abbrev pub IsThere : List Token → (place : ℕ) → (Token → Type 0) → Type 0
IsThere tokens place IsSo = IsSomeAnd (slice_get tokens place) IsSo

-- the entry has what is asked, if anything is
abbrev pub Asks : Option (Bor Parts) → Entry → Type 0
Asks None entry = Unit {0}
Asks (Some parts) entry = MeetsParts parts.now entry

-- some entry of the row is so
abbrev pub HasSo : (Entry → Type 0) → List Entry → Type 0
HasSo IsSo row = (entry : Entry) × Contains row entry × IsSo entry

-- some compound entry of the row is so and ends before the position
abbrev pub EndsSo : (Entry → Type 0) → List (ℕ × Entry) → (k : ℕ) → Type 0
EndsSo IsSo row k =
    (last : ℕ) × (entry : Entry) × Contains row (last, entry) × IsSo entry × (k ≡ last + 1)

-- the position is first told, or some compound entry of the row is so and ends before it
abbrev pub EndsBy : (Entry → Type 0) → (ℕ → Type 0) → List (ℕ × Entry) → (k : ℕ) → Type 0
EndsBy IsSo IsFirst row k = IsFirst k ⊎ EndsSo IsSo row k

-- the positions are those, each once and ascending
pub record AreEnds (IsEnd : ℕ → Type 0) (ends : List ℕ) : Type 0 where
  pub exactly : (k : ℕ) → Contains ends k ↔ IsEnd k
  pub ascending : IsStrictlyIncreasing ends

-- so they are, and none is above the one told last, which is among them or the token's own
pub record AreEndsTo (i told : ℕ) (IsEnd : ℕ → Type 0) (ends : List ℕ) : Type 0 where
  pub are : AreEnds IsEnd ends
  pub below : All (λ end. end ≤ told) ends
  pub last : (told ≡ i) ⊎ Contains ends told

-- a position behind the one told last is put behind the others, if it is accepted
abbrev pub IsPut : (told end : ℕ) → Type 0 → (old new : List ℕ) → (now : ℕ) → Type 0
IsPut told end IsAccepted old new now =
    ((told < end) × IsAccepted × (new ≡ old ++ end ∷ []) × (now ≡ end))
    ⊎ (((told < end) → IsAccepted → ⊥) × (new ≡ old) × (now ≡ told))
