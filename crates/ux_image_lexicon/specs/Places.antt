-- Places in the automaton of an image, to which texts lead. Public: the crate's public contracts
-- speak of it.
use Rattle.std.specs.Prelude.{◌≡◌, ℕ, List, IsUtf8}
use Rattle.std.specs.Str.{chars}
use Rattle.ux_alphabet.specs.Letters.{Letters}
use Rattle.ux_dela.specs.declared.entry.Entry.{Entry}
use Rattle.ux_image_look_ups.specs.Ways.{LeadsBy}
use Rattle.ux_image_lexicon.specs.Told.{content_in}
use Rattle.ux_image_lexicon.specs.declared.reached.ImageReached.{ImageReached}

-- the place is in this content, and its states are those to which the text leads
pub record IsReachedInImage (alphabet : Letters) (content : List Entry) (text : List ℕ)
    (place : ImageReached) : Type 0 where
  pub own : content ≡ content_in place.coded.now
  pub utf8 : IsUtf8 text
  pub states : LeadsBy place.coded.now.states alphabet (chars text) place.states
