-- The content of an image: the entries that the codes of its forms rebuild. The manual, on
-- compressing dictionaries. Public: the crate's public contracts speak of it.
use Rattle.std.specs.Prelude.{ℕ, List, [], ◌∷◌, Option, None, Some, flat_map, map, slice_get}
use Rattle.std.specs.Str.{encode_utf8_all}
use Rattle.ux_dawg.specs.declared.state.Form.{Form}
use Rattle.ux_dela.specs.declared.entry.Entry.{Entry}
use Rattle.ux_dict.specs.Content.{AreDifferent}
use Rattle.ux_image.specs.Codes.{Rebuilds}
use Rattle.ux_image.specs.declared.code.Code.{Code}
use Rattle.ux_image.specs.declared.code.CodeList.{CodeList}
use Rattle.ux_image_lists.specs.Sizes.{forms_of}
use Rattle.ux_image_lists.specs.declared.image.Image.{Image}

-- the codes of a list; none, where there is no list
abbrev pub codes_of : Option CodeList → List Code
codes_of None = []
codes_of (Some list) = list.codes

-- the text of a form, with each code of its list
abbrev pub told_by : List CodeList → Form → List (List ℕ × Code)
told_by lists form =
    map (λ code. (encode_utf8_all form.letters, code)) (codes_of (slice_get lists form.code))

-- each form of the image, in ascending order, with each code of its list
abbrev pub told_in : Image → List (List ℕ × Code)
told_in image = flat_map (told_by image.lists.keys) (forms_of image.states)

-- the entries are what the codes make of the forms, one after another
abbrev pub AreRebuilt : List (List ℕ × Code) → List Entry → Type 0
AreRebuilt [] [] = Unit {0}
AreRebuilt [] (entry ∷ entries) = ⊥
AreRebuilt (told ∷ later) [] = ⊥
AreRebuilt (told ∷ later) (entry ∷ entries) =
    Rebuilds told.0 told.1 entry × AreRebuilt later entries

-- the content of the image: what its codes make of its forms, each entry once
pub record IsContentOf (image : Image) (content : List Entry) : Type 0 where
  pub made : List Entry
  pub rebuilt : AreRebuilt (told_in image) made
  pub different : AreDifferent made content
