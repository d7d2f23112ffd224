-- Images as files: which bytes are one, with which content, and why bytes are none. The manual, on
-- compressing dictionaries. Public: the crate's public contracts speak of it.
use Rattle.std.specs.Prelude.{◌≡◌, ℕ, ◌<◌, List, ◌⊎◌, Contains, length}
use Rattle.ux_dela.specs.declared.entry.Entry.{Entry}
use Rattle.ux_image.specs.Codes.{rebuilt_lemma}
use Rattle.ux_image.specs.declared.code.Code.{Code}
use Rattle.ux_image_reader.specs.declared.error.ImageError.{ImageError}
use Rattle.ux_image_reader.specs.declared.error.ImageError.TheVariants.{TooMany}
use Rattle.ux_image_lists.specs.Images.{IsLayoutOf, RefusesLayout}
use Rattle.ux_image_lists.specs.Sizes.{forms_of, letters_told}
use Rattle.ux_image_lists.specs.declared.image.Image.{Image}
use Rattle.ux_image_content.specs.Contents.{told_in, IsContentOf}

-- how many letters the forms of an image may have together, each form counted for each of its codes
abbrev pub MOST_LETTERS : ℕ
MOST_LETTERS = 536870912

-- how many bytes a lemma may have
abbrev pub MOST_BYTES : ℕ
MOST_BYTES = 4294967295

-- the forms have too many letters together, or a code makes too long a lemma
pub data HasTooMany (image : Image) : Type 0 where
  in_forms : MOST_LETTERS < letters_told image.lists.keys (forms_of image.states) →
      HasTooMany image
  in_lemma : (form : List ℕ) (code : Code) → Contains (told_in image) (form, code) →
      MOST_BYTES < length (rebuilt_lemma code.pairs form) → HasTooMany image

-- the file lays out this image, and it isn't too large
pub record IsImageFile (bytes : List ℕ) (image : Image) : Type 0 where
  pub layout : IsLayoutOf bytes image
  pub few : HasTooMany image → ⊥

-- why bytes are no image, by their first fault: that of the layout, or in the end that it is too
-- large
abbrev pub RefusesImage : List ℕ → ImageError → Type 0
RefusesImage bytes error =
    RefusesLayout bytes error
    ⊎ ((image : Image) × IsLayoutOf bytes image × HasTooMany image × (error ≡ TooMany))

-- the file is an image of this content
abbrev pub IsImageContent : List ℕ → List Entry → Type 0
IsImageContent bytes content =
    (image : Image) × IsImageFile bytes image × IsContentOf image content
