-- The mask texts of boxes, and which of them is no mask's. The manual, on lexical masks. Public,
-- through `Refusing`.
use Rattle.std.specs.Prelude.{◌≡◌, ℕ, List, [], ◌∷◌, ◌++◌, Option, All}
use Rattle.std.specs.List.{flat_map}
use Rattle.std.specs.Option.{option_map_or}
use Rattle.ux_grf.specs.declared.graph.GrfBox.{GrfBox}
use Rattle.ux_grf.specs.declared.item.Item.{Item}
use Rattle.ux_grf.specs.declared.item.Item.TheVariants as item
use Rattle.ux_masks.specs.Texts.{IsMaskText, IsBadAt}
use Rattle.ux_masks.specs.declared.mask.Mask.{Mask}

-- the mask text of an item, if it is one
abbrev pub mask_texts_of_item : Item → List (List ℕ)
mask_texts_of_item (item.Literal text) = []
mask_texts_of_item (item.Quoted text) = []
mask_texts_of_item (item.Mask text) = text ∷ []
mask_texts_of_item (item.Brace text) = []
mask_texts_of_item item.NoSpace = []
mask_texts_of_item item.Empty = []
mask_texts_of_item (item.Call name) = []
mask_texts_of_item (item.Begin name) = []
mask_texts_of_item (item.End name) = []
mask_texts_of_item item.Positive = []
mask_texts_of_item item.Negative = []
mask_texts_of_item item.ContextEnd = []
mask_texts_of_item item.Cut = []

abbrev pub mask_texts_of_line : List Item → List (List ℕ)
mask_texts_of_line line = flat_map mask_texts_of_item line

-- the mask texts of a box, by line and item; boxes that aren't reached have no lines
abbrev pub mask_texts_of : GrfBox → List (List ℕ)
mask_texts_of box = flat_map mask_texts_of_line box.lines

-- those of a box, where there is one
abbrev pub mask_texts_in : Option GrfBox → List (List ℕ)
mask_texts_in box = option_map_or mask_texts_of box []

-- the text is a mask's
abbrev pub IsMask : List ℕ → Type 0
IsMask text = (mask : Mask) × IsMaskText text mask

abbrev pub AreMasks : List (List ℕ) → Type 0
AreMasks texts = All IsMask texts

-- each mask text of each box is a mask's
abbrev pub HaveMasks : List GrfBox → Type 0
HaveMasks boxes = All (λ (box : GrfBox). AreMasks (mask_texts_of box)) boxes

-- the first of the texts that is no mask's is bad at this place
pub record IsFirstBad (texts : List (List ℕ)) (place : ℕ) : Type 0 where
  pub before : List (List ℕ)
  pub text : List ℕ
  pub after : List (List ℕ)
  pub all : texts ≡ before ++ text ∷ after
  pub good : AreMasks before
  pub bad : IsBadAt text place
