-- Which bodies of tags are entries. The manual, on tags in a text. Public: the crate's public
-- contracts speak of it.
use Rattle.std.specs.Prelude.{◌≡◌, ℕ, List, [], ◌∷◌}
use Rattle.ux_dela.specs.Signs.{is_brace}
use Rattle.ux_dela.specs.Written.{Written, written, IsPart}
use Rattle.ux_dela.specs.Delaf.{DelafParts, IsDelafLine, entries_of}
use Rattle.ux_dela.specs.Sound.{HasNoFeed}
use Rattle.ux_dela.specs.declared.entry.Entry.{Entry}

-- the body is a line of this entry alone, without a comment, a line feed or a bare brace
pub record IsTagBody (body : List ℕ) (entry : Entry) : Type 0 where
  pub parts : DelafParts
  pub line : IsDelafLine body parts
  pub alone : entries_of parts ≡ entry ∷ []
  pub no_comment : parts.comment ≡ []
  pub characters : List Written
  pub whole : body ≡ written characters
  pub no_brace : IsPart is_brace characters
  pub no_feed : HasNoFeed body
