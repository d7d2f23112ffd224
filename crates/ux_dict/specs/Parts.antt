-- Parts of a dictionary: entries whose forms begin with the same characters, which fit the front of
-- a text. Inner: the crate's own functions alone speak of it, and `Places`, which says by it where
-- a text leads.
use Rattle.std.specs.Prelude.{◌≡◌, ◌==◌, ℕ, List, [], ◌∷◌, ◌++◌, Bool, nat_le, All, AllPairs, Contains, IsUtf8, length, take, drop, map, filter, flat_map, encode_utf8_all}
use Rattle.std.specs.List.{AllZip}
use Rattle.std.specs.List.Sorted.{IsStrictlyIncreasing}
use Rattle.std.specs.Cmp.Lexicographic.{slice_cmp}
use Rattle.std.specs.Ordering.{nat_cmp, ordering_index}
use Rattle.std.specs.Str.{chars}
use Rattle.ux_alphabet.specs.Letters.{Letters, Fits, FitsAlone}
use Rattle.ux_dela.specs.declared.entry.Entry.{Entry}
use Rattle.ux_dict.specs.declared.parts.Part.{Part}
use Rattle.ux_dict.specs.Content.{IsUpTo}
use Rattle.ux_dict.specs.Forms.{IsChosen}
use Rattle.ux_dict.specs.Kept.{IsSpelled}
use Rattle.ux_dict.specs.Keys.{key_of}

-- 0, 1 or 2 where the front of the text, of as many bytes as these, is below, equal to or above
-- them
abbrev pub rank_of : (bytes text : List ℕ) → ℕ
rank_of bytes text = ordering_index (slice_cmp nat_cmp (take (length bytes) text) bytes)

-- the rank of the form behind its first few bytes
abbrev pub next_rank : (len : ℕ) (bytes : List ℕ) → Entry → ℕ
next_rank len bytes entry = rank_of bytes (drop len entry.form)

-- the bytes stand in the form behind its first few bytes
abbrev pub goes_on : (len : ℕ) (bytes : List ℕ) → Entry → Bool
goes_on len bytes entry = next_rank len bytes entry == 1

-- the form has at most so many bytes
abbrev pub ends_by : (len : ℕ) → Entry → Bool
ends_by len entry = nat_le (length entry.form) len

-- the form begins with the characters
abbrev pub BeginsWith : (front : List ℕ) → Entry → Type 0
BeginsWith front entry = (rest : List ℕ) × (chars entry.form ≡ front ++ rest)

-- the keys are those of the entries
abbrev pub IsKeyed : Part → Type 0
IsKeyed part = part.keys.now ≡ map key_of part.entries.now

-- the forms are texts that begin with the characters, whose bytes are as many as noted, and they
-- are in order
pub record IsPart (front : List ℕ) (part : Part) : Type 0 where
  pub keyed : IsKeyed part
  pub long : length (encode_utf8_all front) ≡ part.len
  pub utf8 : All (λ entry. IsUtf8 entry.form) part.entries.now
  pub shared : All (BeginsWith front) part.entries.now
  pub ordered : AllPairs IsUpTo part.entries.now

-- the second part has the entries of the first one that pass, and their keys
pub record IsSifted (passes : Entry → Bool) (part sifted : Part) : Type 0 where
  pub entries : sifted.entries.now ≡ filter passes part.entries.now
  pub keyed : IsKeyed sifted
  pub len : sifted.len ≡ part.len

-- the second part has those entries of the first one that pass, and maybe others
pub record IsNarrowed (front : List ℕ) (passes : Entry → Bool) (part narrowed : Part) : Type 0 where
  pub is : IsPart front narrowed
  pub same : filter passes narrowed.entries.now ≡ filter passes part.entries.now

-- the form begins with the characters and then one of these
abbrev pub GoesOnWith : (front letters : List ℕ) → Entry → Type 0
GoesOnWith front letters entry = (c : ℕ) × Contains letters c × BeginsWith (front ++ c ∷ []) entry

-- the entries of the parts, one part after the other
abbrev pub entries_of : List Part → List Entry
entries_of parts = flat_map (λ part. part.entries.now) parts

-- the new parts have the entries of a part whose forms go on with the characters
pub record IsFollowed (front more : List ℕ) (part : Part) (old new : List Part) : Type 0 where
  pub pushed : List Part
  pub is : new ≡ old ++ pushed
  pub chosen : IsChosen (BeginsWith (front ++ more)) part.entries.now (entries_of pushed)
  pub each : All (IsPart (front ++ more)) pushed

-- the new parts have the entries of a part whose forms go on with one of the letters
pub record IsContinued (front letters : List ℕ) (part : Part) (old new : List Part) : Type 0 where
  pub pushed : List Part
  pub is : new ≡ old ++ pushed
  pub chosen : IsChosen (GoesOnWith front letters) part.entries.now (entries_of pushed)
  pub each : All (λ next. (c : ℕ) × Contains letters c × IsPart (front ++ c ∷ []) next) pushed

-- the letters that fit a character of a text, in order
pub record AreCandidates (alphabet : Letters) (letters : List ℕ) (c : ℕ) (candidates : List ℕ) :
    Type 0 where
  pub increasing : IsStrictlyIncreasing candidates
  pub fit : All (λ letter. Fits alphabet letter c) candidates
  pub every : (letter : ℕ) → Contains letters letter → Fits alphabet letter c →
      Contains candidates letter

-- the form begins with characters that fit these
abbrev pub BeginsFittingAll : Letters → (front : List ℕ) → Entry → Type 0
BeginsFittingAll alphabet front entry = (fitting : List ℕ) × AllZip (Fits alphabet) fitting front
    × BeginsWith fitting entry

-- the part's forms begin with the same characters, which fit these
abbrev pub IsFittingPart : Letters → (front : List ℕ) → Part → Type 0
IsFittingPart alphabet front part = (fitting : List ℕ) × AllZip (Fits alphabet) fitting front
    × IsPart fitting part

-- the parts have the entries whose forms begin with characters that fit these, in order
pub record AreFittingParts (alphabet : Letters) (front : List ℕ) (all : List Entry)
    (parts : List Part) : Type 0 where
  pub whole : IsChosen (BeginsFittingAll alphabet front) all (entries_of parts)
  pub each : All (IsFittingPart alphabet front) parts

-- where the parts fit the front of a text, the next ones fit more characters, which no others fit
abbrev pub GoOnAlone : (more : List ℕ) (parts next : List Part) → Type 0
GoOnAlone more parts next = (alphabet : Letters) (front : List ℕ) (all : List Entry) →
    All (FitsAlone alphabet) more → AreFittingParts alphabet front all parts →
    AreFittingParts alphabet (front ++ more) all next

-- where the parts fit the front of a text, the next ones fit these characters as well
abbrev pub GoOn : Letters → (letters more : List ℕ) (parts next : List Part) → Type 0
GoOn alphabet letters more parts next = (front : List ℕ) (all : List Entry) →
    All (IsSpelled letters) all → AreFittingParts alphabet front all parts →
    AreFittingParts alphabet (front ++ more) all next

-- where the parts fit a text, the entries are those whose whole forms do
abbrev pub AreWhole : (parts : List Part) (found : List Entry) → Type 0
AreWhole parts found = (alphabet : Letters) (text : List ℕ) (all : List Entry) →
    AreFittingParts alphabet text all parts →
    IsChosen (λ entry. AllZip (Fits alphabet) (chars entry.form) text) all found
