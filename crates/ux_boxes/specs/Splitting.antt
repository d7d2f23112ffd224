-- How a box's lines become those of a place, one item after another. Inner: the crates that make
-- nets alone speak of it.
use Rattle.std.specs.Prelude.{◌≡◌, ℕ, zero, suc, ◌+◌, List, [], ◌∷◌, ◌++◌, All, Contains, Some, slice_get, ◌<◌, length}
use Rattle.std.specs.List.{AllZip}
use Rattle.ux_alphabet.specs.Letters.{Letters}
use Rattle.ux_tokens.specs.declared.kind.Kind.{Kind}
use Rattle.ux_grf.specs.declared.graph.GrfBox.{GrfBox}
use Rattle.ux_grf.specs.declared.item.Item.{Item}
use Rattle.ux_grf.specs.declared.item.Piece.{Piece}
use Rattle.ux_grf.specs.declared.item.Item.TheVariants as item
use Rattle.ux_masks.specs.Texts.{IsMaskText}
use Rattle.ux_masks.specs.declared.mask.Mask.{Mask}
use Rattle.ux_net.specs.declared.label.Label.{Label}
use Rattle.ux_net.specs.declared.label.Label.TheVariants as label
use Rattle.ux_boxes.specs.declared.place.Place.{Place}
use Rattle.ux_boxes.specs.declared.split.Comparison.{Comparison}
use Rattle.ux_boxes.specs.declared.split.Comparison.TheVariants.{Folded, CaseExact}
use Rattle.ux_boxes.specs.MaskTexts.{IsMask}
use Rattle.ux_boxes.specs.Boxes.{fold_label, exact_label, IsCut, IsSplit, IsSplitLine, Drawn, boxes_of, names_of}
use Rattle.ux_boxes.specs.Places.{ArePlaces, places_of}

-- the label of a piece of a text, by how it is compared
abbrev pub label_by : Comparison → Kind → List ℕ → Label
label_by Folded kind text = fold_label kind text
label_by CaseExact kind text = exact_label kind text

abbrev pub text_label : Comparison → List ℕ → Label
text_label Folded text = label.CaseFolded text
text_label CaseExact text = label.CaseExact text

-- the item has labels: if it is a mask or a call, it is that of a mask or of a graph that is there
abbrev pub IsSplittable : List (List ℕ) → Item → Type 0
IsSplittable names (item.Literal text) = Unit {0}
IsSplittable names (item.Quoted text) = Unit {0}
IsSplittable names item.NoSpace = Unit {0}
IsSplittable names item.Empty = Unit {0}
IsSplittable names (item.Call name) = Contains names name
IsSplittable names (item.Mask text) = IsMask text
IsSplittable names (item.Brace text) = Unit {0}
IsSplittable names (item.Begin name) = Unit {0}
IsSplittable names (item.End name) = Unit {0}
IsSplittable names item.Positive = Unit {0}
IsSplittable names item.Negative = Unit {0}
IsSplittable names item.ContextEnd = Unit {0}
IsSplittable names item.Cut = Unit {0}

abbrev pub IsSplittableBox : List (List ℕ) → GrfBox → Type 0
IsSplittableBox names box = All (All (IsSplittable names)) box.lines

-- the number, counted from 1, of the graph of this name
abbrev pub IsNumberOf : List (List ℕ) → List ℕ → ℕ → Type 0
IsNumberOf names name number = (k : ℕ) × (slice_get names k ≡ Some name) × (number ≡ k + 1)

-- the call of this number stands behind what was there
abbrev pub IsNumbered : List (List ℕ) → List ℕ → (before after : List Label) → Type 0
IsNumbered names name before after =
    (number : ℕ) × IsNumberOf names name number × (after ≡ before ++ label.Call number ∷ [])

-- the mask of this text stands behind what was there
abbrev pub IsMaskBehind : List ℕ → (before after : List Label) → Type 0
IsMaskBehind text before after =
    (mask : Mask) × IsMaskText text mask × (after ≡ before ++ label.Mask mask ∷ [])

-- the labels of one item stand behind what was there
abbrev pub IsBehind : Letters → List (List ℕ) → Item → (before after : List Label) → Type 0
IsBehind alphabet names item before after =
    (added : List Label) × IsSplit alphabet names item added × (after ≡ before ++ added)

-- the labels of a text do
abbrev pub IsCutBehind : Letters → Comparison → List ℕ → (before after : List Label) → Type 0
IsCutBehind alphabet comparison text before after =
    (added : List Label) × IsCut alphabet (label_by comparison) text added
    × (after ≡ before ++ added)

-- each line as labels
abbrev pub AreSplitLines : Letters → List (List ℕ) → List (List Item) → List (List Label) →
    Type 0
AreSplitLines alphabet names lines split = AllZip (IsSplitLine alphabet names) lines split

-- the line of box 0: the empty word
abbrev pub start_line : List Item
start_line = item.Empty ∷ []

-- the lines of a box of this number
abbrev pub numbered_lines : ℕ → GrfBox → List (List Item)
numbered_lines zero grf_box = start_line ∷ []
numbered_lines (suc zero) grf_box = []
numbered_lines (suc (suc n)) grf_box = grf_box.lines

-- what a box of this number puts out
abbrev pub numbered_output : ℕ → GrfBox → List Piece
numbered_output zero grf_box = []
numbered_output (suc zero) grf_box = []
numbered_output (suc (suc n)) grf_box = grf_box.output

module _ (alphabet : Letters) (names : List (List ℕ)) where
  -- the place of a box of this number
  pub record IsPlaceOf (number : ℕ) (grf_box : GrfBox) (place : Place) : Type 0 where
    pub reached : place.reached ≡ grf_box.reached
    pub targets : place.targets ≡ grf_box.targets
    pub output : place.output ≡ numbered_output number grf_box
    pub lines : AreSplitLines alphabet names (numbered_lines number grf_box) place.lines

-- the places of all graphs, each made of its boxes
pub record AreSplit (alphabet : Letters) (graphs : List Drawn) (places : List (List Place)) :
    Type 0 where
  pub count : length places ≡ length graphs
  pub each : (n : ℕ) → n < length graphs →
      ArePlaces alphabet (names_of graphs) (boxes_of graphs (suc n)) (places_of places (suc n))
