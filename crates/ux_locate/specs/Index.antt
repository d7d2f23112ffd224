-- The index of the hits: a header, then one line each, by place. The manual, on the files of a search.
-- Public: the crate's public contracts speak of it.
use Rattle.std.specs.Prelude.{◌≡◌, ℕ, ◌+◌, ◌<◌, List, [], ◌∷◌, ◌++◌, ◌⊎◌, ◌↔◌, codes, Contains, Some, slice_get}
use Rattle.std.specs.Fmt.{decimal}
use Rattle.std.specs.Ordering.{nat_cmp}
use Rattle.std.specs.Cmp.Lexicographic.{slice_cmp}
use Rattle.std.specs.declared.cmp.Ordering.TheVariants.{Less}
use Rattle.ux_base.specs.declared.settings.Mode.{Mode}
use Rattle.ux_base.specs.declared.settings.Mode.TheVariants.{Ignore, Merge, Replace}
use Rattle.ux_base.specs.declared.settings.Policy.{Policy}
use Rattle.ux_outputs.specs.declared.hit.Hit.{Hit}
use Rattle.ux_locate.specs.Policies.{Keeps}

-- the first line tells the mode
abbrev pub header : Mode → List ℕ
header Ignore = codes "#I\n"
header Merge = codes "#M\n"
header Replace = codes "#R\n"

-- a hit's line: first token, last token, text
abbrev pub index_line : Hit → List ℕ
index_line hit =
    decimal hit.first ++ codes " " ++ decimal hit.last ++ codes " " ++ hit.text ++ codes "\n"

-- a line for each hit
abbrev pub index_lines : List Hit → List ℕ
index_lines [] = []
index_lines (hit ∷ hits) = index_line hit ++ index_lines hits

-- the header, and the lines
abbrev pub index_of : Mode → List Hit → List ℕ
index_of mode hits = header mode ++ index_lines hits

-- one hit stands before another: by first token, then by last token, then by the bytes of the text
abbrev pub StandsBefore : Hit → Hit → Type 0
StandsBefore a b =
    (a.first < b.first)
    ⊎ ((a.first ≡ b.first) × (a.last < b.last))
    ⊎ ((a.first ≡ b.first) × (a.last ≡ b.last) × (slice_cmp nat_cmp a.text b.text ≡ Less))

-- each hit of the set is listed once, by place
pub record IsListing (IsHit : Hit → Type 0) (hits : List Hit) : Type 0 where
  pub exactly : (hit : Hit) → Contains hits hit ↔ IsHit hit
  pub ordered : (k : ℕ) (a b : Hit) → slice_get hits k ≡ Some a →
      slice_get hits (k + 1) ≡ Some b → StandsBefore a b

-- the hits of the set that the policy keeps are listed
abbrev pub IsKeptListing : Policy → (IsHit : Hit → Type 0) → (kept : List Hit) → Type 0
IsKeptListing policy IsHit kept = IsListing (Keeps policy IsHit kept) kept

-- the text is the index of what the policy keeps of the set
pub record IsIndex (mode : Mode) (policy : Policy) (IsHit : Hit → Type 0) (text : List ℕ) : Type 0
  where
    pub hits : List Hit
    pub listing : IsKeptListing policy IsHit hits
    pub written : text ≡ index_of mode hits
