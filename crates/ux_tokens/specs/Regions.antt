-- Regions, what stands after a brace up to what ends a tag's body: for inner functions alone.
use Rattle.std.specs.Prelude.{◌≡◌, ◌⊎◌, ℕ, suc, Bool, not, ◌||◌, ◌&&◌, ◌≤◌, ◌<◌, true, false, Option, None, Some, List, [], ◌∷◌, length, take, drop, slice_get}
use Rattle.ux_dela.specs.Signs.{is_brace}
use Rattle.ux_dela.specs.Written.{IsPart, has_bare}
use Rattle.ux_dela.specs.Sound.{HasNoFeed, is_feed}
use Rattle.ux_dela.specs.Reading.{characters, characters_from}
use Rattle.ux_dela.specs.declared.entry.Entry.{Entry}
use Rattle.ux_tokens.specs.declared.tails.Rest.{Rest}
use Rattle.ux_tokens.specs.declared.tags.Found.{Found}
use Rattle.ux_tokens.specs.Tokens.{OPENING_BRACE, CLOSING_BRACE, IsTag, BeginsWithTag}
use Rattle.ux_tokens.specs.Tails.{AreTails, before_form, is_tail}

-- the brace that closes a tag stands at the front
abbrev pub Closes : List ℕ → Type 0
Closes text = (rest : List ℕ) × (text ≡ CLOSING_BRACE ∷ rest)

-- no region goes on there: at the text's end, at a line feed, and at a bare brace
abbrev pub EndsRegion : (front rest : List ℕ) → Type 0
EndsRegion front [] = Unit {0}
EndsRegion front (b ∷ rest) =
    (is_feed b ≡ true) ⊎ (IsPart is_brace (characters front) × (is_brace b ≡ true))

-- the byte ends a region, where it is protected or not
abbrev pub ends_at : Bool → ℕ → Bool
ends_at protected b = is_feed b || (not protected && is_brace b)

-- up to there the text has neither a line feed nor a bare brace, and it is as long as can be
pub record IsRegion (front rest : List ℕ) : Type 0 where
  pub no_feed : HasNoFeed front
  pub no_brace : has_bare is_brace (characters front) ≡ false
  pub ends : EndsRegion front rest

-- of which parts the text is the rest, as it stands and where its first byte is protected
pub record AreRest (rest : Rest) (text : List ℕ) : Type 0 where
  pub is_bare : AreTails rest.bare (characters_from false text)
  pub is_protected : AreTails rest.protected (characters_from true text)

-- a brace stands at the place, and a tag's body goes from there to the end
abbrev pub IsTagPlace : List ℕ → ℕ → Type 0
IsTagPlace region place = (slice_get region place ≡ Some OPENING_BRACE)
    × (is_tail before_form (characters (drop (suc place) region)) ≡ true)

-- the first such place from a place on, if there is one
abbrev pub IsFirstPlace : List ℕ → ℕ → Option ℕ → Type 0
IsFirstPlace region from None = (j : ℕ) → from ≤ j → IsTagPlace region j → ⊥
IsFirstPlace region from (Some place) = IsTagPlace region place
    × ((j : ℕ) → from ≤ j → j < place → IsTagPlace region j → ⊥)

-- no tag begins at the free places, and where there is none a tag of that length does
pub record IsFound (text : List ℕ) (found : Found) : Type 0 where
  pub within : found.free ≤ length text
  pub none : (k : ℕ) → k < found.free → BeginsWithTag (drop k text) → ⊥
  pub tag : found.free ≡ 0 → (entry : Entry) × IsTag (take found.len text) entry
  pub len : found.free ≡ 0 → found.len ≤ length text

-- no tag begins from a place up to another one
abbrev pub IsFree : List ℕ → (from to : ℕ) → Type 0
IsFree text from to = (k : ℕ) → from ≤ k → k < to → BeginsWithTag (drop k text) → ⊥
