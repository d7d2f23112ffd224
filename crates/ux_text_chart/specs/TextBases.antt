-- A text as the basis of the charts of a net. Public: the contracts of the chart of a text speak of it.
use Rattle.std.specs.Prelude.{◌≡◌, List, length}
use Rattle.ux_net.specs.declared.net_graph.NetGraph.{NetGraph}
use Rattle.ux_parts.specs.declared.parts.Parts.{Parts}
use Rattle.ux_parts.specs.Ordered.{GoesAhead}
use Rattle.ux_chart.specs.Likely.{AreKnown}
use Rattle.ux_mask_table.specs.MaskedTexts.{IsKnown}
use Rattle.ux_text_chart.specs.Leading.{input_of}
use Rattle.ux_walk.specs.Settings.{masked_setting}
use Rattle.ux_text_chart.specs.NetTables.{AreTablesFor}
use Rattle.ux_text_chart.specs.declared.text_basis.TextBasis.{TextBasis}

-- the basis is made for the net, and its tables are the net's and have these parts
pub record TellsParts (basis : TextBasis) (net : List NetGraph) (parts : Parts) : Type 0 where
  pub net_is : basis.text.now.net.now ≡ net
  pub parts_are : basis.tables.now.prepared.parts ≡ parts
  pub known : AreKnown (IsKnown basis.text.now) basis.text.now.net.now
  pub ahead : GoesAhead (input_of (masked_setting basis.text.now)) (length basis.text.now.text.now)
  pub tables_are : AreTablesFor basis.text.now.alphabet.now basis.text.now.text.now
      basis.text.now.net.now basis.tables.now
