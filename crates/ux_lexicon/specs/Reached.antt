-- Places in a dictionary of any kind, to which texts lead. Public: the crate's public contracts speak
-- of it.
use Rattle.std.specs.Prelude.{ℕ, List}
use Rattle.ux_alphabet.specs.Letters.{Letters}
use Rattle.ux_dela.specs.declared.entry.Entry.{Entry}
use Rattle.ux_dict.specs.Places.{IsReachedInList}
use Rattle.ux_image_lexicon.specs.Places.{IsReachedInImage}
use Rattle.ux_lexicon.specs.declared.reached.Reached.{Reached}
use Rattle.ux_lexicon.specs.declared.reached.Reached.TheVariants as reached

-- the text leads to the place in the content, by the alphabet
abbrev pub IsReachedBy : Letters → (content : List Entry) (text : List ℕ) → Reached → Type 0
IsReachedBy alphabet content text (reached.List place) = IsReachedInList alphabet content text place
IsReachedBy alphabet content text (reached.Image place) =
    IsReachedInImage alphabet content text place
