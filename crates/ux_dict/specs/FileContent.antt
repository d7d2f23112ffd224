-- Which content a dictionary has that is read from a file of forms. Public: the crate's public
-- contracts speak of it.
use Rattle.std.specs.Prelude.{ℕ, List}
use Rattle.ux_dela.specs.Files.{AreEntries}
use Rattle.ux_dela.specs.declared.entry.Entry.{Entry}
use Rattle.ux_dict.specs.Content.{IsContent}

-- the content is that of the file's entries
pub record IsFileContent (text : List ℕ) (content : List Entry) : Type 0 where
  pub entries : List Entry
  pub are : AreEntries text entries
  pub is : IsContent entries content
