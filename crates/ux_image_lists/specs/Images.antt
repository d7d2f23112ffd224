-- The layout of an image: which bytes have one, and why bytes have none. The manual, on compressing
-- dictionaries. Public: the crate's public contracts speak of it.
use Rattle.std.specs.Prelude.{◌≡◌, ℕ, List, [], ◌⊎◌, drop}
use Rattle.ux_image.specs.declared.code.CodeList.{CodeList}
use Rattle.ux_image_reader.specs.Fronts.{IsFrontOf, RefusesFront}
use Rattle.ux_image_reader.specs.declared.error.ImageError.{ImageError}
use Rattle.ux_image_reader.specs.declared.front.Front.{Front}
use Rattle.ux_image_lists.specs.Fields.{Field, closed}
use Rattle.ux_image_lists.specs.Lists.{lists}
use Rattle.ux_image_lists.specs.Shortest.{AreShortest}
use Rattle.ux_image_lists.specs.declared.image.Image.{Image}

-- what stands behind a front: its lists, which end the file; of the shortest form with each list
-- this is the length
abbrev pub lists_behind : Front → (shortest : List ℕ) → Field (List CodeList)
lists_behind front shortest = closed (lists front.version shortest)

-- these lists stand behind the front
pub record HasLists (bytes : List ℕ) (front : Front) (all : List CodeList) : Type 0 where
  pub shortest : List ℕ
  pub are_shortest : AreShortest front.states front.lists shortest
  pub begins : (lists_behind front shortest).Begins (drop front.end bytes) all []

-- what stands behind the front is refused
pub record RefusesLists (bytes : List ℕ) (front : Front) (error : ImageError) : Type 0 where
  pub shortest : List ℕ
  pub are_shortest : AreShortest front.states front.lists shortest
  pub refuses : (lists_behind front shortest).Refuses (drop front.end bytes) error

-- the file lays out these states and these lists
pub record IsLayoutOf (bytes : List ℕ) (image : Image) : Type 0 where
  pub front : Front
  pub is_front : IsFrontOf bytes front
  pub states : image.states ≡ front.states
  pub lists : HasLists bytes front image.lists.keys

-- why bytes have no layout, by their first fault: that of the front, or of what stands behind it
abbrev pub RefusesLayout : List ℕ → ImageError → Type 0
RefusesLayout bytes error =
    RefusesFront bytes error
    ⊎ ((front : Front) × IsFrontOf bytes front × RefusesLists bytes front error)
