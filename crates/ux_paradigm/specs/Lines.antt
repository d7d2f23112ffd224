-- The lines of the forms of a stem. Public: the crate's public contracts speak of it.
use Rattle.std.specs.Prelude.{◌≡◌, ℕ, List, ◌++◌, codes}
use Rattle.std.specs.List.{flat_map}
use Rattle.ux_dela.specs.Printed.{printed}
use Rattle.ux_dela.specs.declared.entry.Entry.{Entry}
use Rattle.ux_dela.specs.declared.entry.Stem.{Stem}
use Rattle.ux_inflect.specs.Inflected.{AreInflected}
use Rattle.ux_net.specs.declared.net_graph.NetGraph.{NetGraph}

-- an entry as a line
abbrev pub line_of : Entry → List ℕ
line_of entry = printed entry ++ codes "\n"

-- the text is the lines of the stem's entries
pub record AreLines (stem : Stem) (net : List NetGraph) (text : List ℕ) : Type 0 where
  pub entries : List Entry
  pub are : AreInflected stem net entries
  pub lines : text ≡ flat_map line_of entries
