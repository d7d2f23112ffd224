-- Which spans the masks of a net accept from each place of a text. Public: the contracts of the table
-- speak of it.
use Rattle.std.specs.Prelude.{◌≡◌, ℕ, ◌+◌, ◌<◌, ◌↔◌, List, [], ◌∷◌, ◌++◌, Option, Some, Contains, slice_get, length}
use Rattle.std.specs.List.Sorted.{IsStrictlyIncreasing}
use Rattle.ux_alphabet.specs.Letters.{Letters}
use Rattle.ux_tokens.specs.Tokens.{Token}
use Rattle.ux_tokens.specs.Numbers.{different_texts}
use Rattle.ux_masks.specs.declared.mask.Mask.{Mask}
use Rattle.ux_lexical_tables.specs.Accepting.{Accepts, IsAlone}
use Rattle.ux_lexical_tables.specs.Tables.{Tables}
use Rattle.ux_net.specs.declared.net_graph.NetGraph.{NetGraph}
use Rattle.ux_net.specs.Masks.{masks_in, masks_of}
use Rattle.ux_mask_table.specs.NetMasks.{AreNetMasks}
use Rattle.ux_mask_table.specs.declared.rows.Row.{Row}
use Rattle.ux_mask_table.specs.declared.spans.Spans.{Spans}
use Rattle.ux_mask_table.specs.declared.mask_table.MaskTable.{MaskTable}
use Rattle.ux_mask_table.specs.Spans.{IsRow}

-- rows were added behind the others, if any
abbrev pub Grows : List Row → List Row → Type 0
Grows old new = (more : List Row) × (new ≡ old ++ more)

-- a row of the place was added behind the others
abbrev pub AddsRow : List Row → List Row → (place : ℕ) → Type 0
AddsRow old new place = (row : Row) × (new ≡ old ++ row ∷ []) × (row.place ≡ place)

-- the token at the place has this number
abbrev pub IsNumbered : List Token → (place number : ℕ) → Type 0
IsNumbered tokens place number = (token : Token) × (slice_get tokens place ≡ Some token)
    × (slice_get (different_texts tokens) number ≡ Some token.text)

-- the ends from a place are those that were found from another one, each as far from it
pub record TellsEnds (Takes : ℕ → ℕ → Type 0) (place from : ℕ) (ends : List ℕ) : Type 0 where
  pub behind : (k : ℕ) → Contains ends k → from < k
  pub exactly : (n : ℕ) → Contains ends (from + n) ↔ Takes place (place + n)
  pub ascending : IsStrictlyIncreasing ends

module _ (tokens : List Token) (tables : Tables) where
  -- the row of this number is that of a token of a number, which stands alone
  pub record IsFirst (rows : List Row) (token number : ℕ) : Type 0 where
    pub row : Row
    pub found : slice_get rows number ≡ Some row
    pub numbered : IsNumbered tokens row.place token
    pub alone : IsAlone tokens tables row.place

  -- the rows that are known by the numbers of tokens
  abbrev pub AreKnown : List Row → List (Option ℕ) → Type 0
  AreKnown rows known = (token number : ℕ) → slice_get known token ≡ Some (Some number) →
      IsFirst rows token number

module _ (alphabet : Letters) (tokens : List Token) (tables : Tables) where
  -- the mask of this number accepts the tokens from a place up to k
  pub record IsEndOf (masks : List Mask) (place number k : ℕ) : Type 0 where
    pub mask : Mask
    pub found : slice_get masks number ≡ Some mask
    pub accepts : Accepts alphabet tokens tables mask place k

  -- rows that tell what all masks accept from their places
  abbrev pub AreRows : List Mask → Spans → List Row → Type 0
  AreRows masks spans rows = (n : ℕ) (row : Row) → slice_get rows n ≡ Some row →
      IsRow spans (IsEndOf masks row.place) row.spans (length masks)

  -- from one place each mask accepts as many tokens as from the other
  abbrev pub AreAlike : (place other : ℕ) → Type 0
  AreAlike place other = (mask : Mask) (n : ℕ) →
      Accepts alphabet tokens tables mask place (place + n)
      ↔ Accepts alphabet tokens tables mask other (other + n)

  -- the row of this number is that of a place like this one
  pub record IsLike (rows : List Row) (number place : ℕ) : Type 0 where
    pub row : Row
    pub found : slice_get rows number ≡ Some row
    pub alike : AreAlike row.place place

  -- each of the first places has such a row
  abbrev pub AreTold : List Row → List ℕ → (bound : ℕ) → Type 0
  AreTold rows numbers bound = (place : ℕ) → place < bound →
      (number : ℕ) × (slice_get numbers place ≡ Some number) × IsLike rows number place

  -- the table has the masks of the net, and if there are any, a row for each place
  pub record IsMaskTable (net : List NetGraph) (table : MaskTable) : Type 0 where
    pub masks : AreNetMasks net table.masks.now
    pub rows : AreRows (masks_in table.masks.now.set) table.rows.spans table.rows.list.items
    pub told : (mask : Mask) → Contains (masks_of net) mask →
        AreTold table.rows.list.items table.numbers.items (length tokens)
