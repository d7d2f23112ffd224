-- The definitions on a small image: the forms `a` and `b` with one list of two codes.
use Rattle.std.proofs.Common.{◌≡◌, List, [], ◌∷◌, refl}
use Rattle.std.specs.Prelude.{None, Some, flat_map}
use Rattle.ux_dawg.specs.Paths.{edge}
use Rattle.ux_dawg.specs.declared.state.State.{State}
use Rattle.ux_image.specs.declared.code.Code.{Code}
use Rattle.ux_image.specs.declared.code.CodeList.{CodeList}
use Rattle.ux_image_lists.specs.Sizes.{forms_of, letters_told}
use Rattle.ux_image_content.specs.Contents.{told_by}
use lib.Utf8.{encode}

abbrev final : State
final = record { code = Some 0; edges = [] }

-- 97 and 98 are the characters
abbrev both : State
both = record { code = None; edges = edge 97 0 ∷ edge 98 0 ∷ [] }

abbrev states : List State
states = final ∷ both ∷ []

-- nothing is taken off, and `b` is added or not; the codes are `N`
abbrev plain : Code
plain = record { pairs = record { taken = 0; added = [] } ∷ []; codes = 78 ∷ [] }

abbrev longer : Code
longer = record { pairs = record { taken = 0; added = 98 ∷ [] } ∷ []; codes = 78 ∷ [] }

abbrev lists : List CodeList
lists = record { codes = plain ∷ longer ∷ [] } ∷ []

-- each form, in ascending order, with each code
four : flat_map (told_by lists) (forms_of states)
    ≡ (97 ∷ [], plain) ∷ ((97 ∷ [], longer) ∷ ((98 ∷ [], plain) ∷ ((98 ∷ [], longer) ∷ [])))
unfolding encode
four = refl

-- and a letter for each
four_letters : letters_told lists (forms_of states) ≡ 4
four_letters = refl
