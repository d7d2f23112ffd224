-- Places in a dictionary, by its kind.
use Rattle.std.proofs.Common.{◌≡◌, ℕ, List, subst}
use Rattle.ux_alphabet.specs.Letters.{Letters}
use Rattle.ux_dela.specs.declared.entry.Entry.{Entry}
use Rattle.ux_dict.specs.Places.{IsReachedInList}
use Rattle.ux_dict.specs.declared.list_reached.ListReached.{ListReached}
use Rattle.ux_image_lexicon.specs.Places.{IsReachedInImage}
use Rattle.ux_image_lexicon.specs.declared.reached.ImageReached.{ImageReached}
use Rattle.ux_lexicon.specs.declared.reached.Reached.{Reached}
use Rattle.ux_lexicon.specs.declared.reached.Reached.TheVariants as reached
use Rattle.ux_lexicon.specs.Reached.{IsReachedBy}

-- a place in a list of entries is one by its parts
pub reached-List : (alphabet : Letters) (content : List Entry) (text : List ℕ) (any : Reached)
    (place : ListReached) → any ≡ reached.List place → IsReachedBy alphabet content text any →
    IsReachedInList alphabet content text place
reached-List alphabet content text any place is leads =
    subst (IsReachedBy alphabet content text) is leads

-- a place in the automaton of an image is one by its states
pub reached-Image : (alphabet : Letters) (content : List Entry) (text : List ℕ) (any : Reached)
    (place : ImageReached) → any ≡ reached.Image place → IsReachedBy alphabet content text any →
    IsReachedInImage alphabet content text place
reached-Image alphabet content text any place is leads =
    subst (IsReachedBy alphabet content text) is leads
