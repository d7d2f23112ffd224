-- Places in a dictionary of entries that were read, to which texts lead. Public: the crate's public
-- contracts speak of it.
use Rattle.std.specs.Prelude.{◌≡◌, ℕ, List, All, IsUtf8}
use Rattle.std.specs.Str.{chars}
use Rattle.ux_alphabet.specs.Letters.{Letters}
use Rattle.ux_dela.specs.Sound.{IsSound}
use Rattle.ux_dela.specs.declared.entry.Entry.{Entry}
use Rattle.ux_dict.specs.declared.list_reached.ListReached.{ListReached}
use Rattle.ux_dict.specs.Parts.{AreFittingParts}

-- the place is in this content, and its parts have the entries whose forms begin with characters
-- that fit the text
pub record IsReachedInList (alphabet : Letters) (content : List Entry) (text : List ℕ)
    (place : ListReached) : Type 0 where
  pub own : content ≡ place.lexicon.now
  pub sound : All IsSound content
  pub utf8 : IsUtf8 text
  pub fit : AreFittingParts alphabet (chars text) content place.parts.items
