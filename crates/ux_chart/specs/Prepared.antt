-- What charts ask of a net. Public: the contract of the chart speaks of it.
use Rattle.std.specs.Prelude.{List}
use Rattle.ux_net.specs.declared.net_graph.NetGraph.{NetGraph}
use Rattle.ux_parts.specs.Parts.{ArePartsOf}
use Rattle.ux_chart.specs.Alike.{IsSharing}
use Rattle.ux_chart.specs.ClosingStates.{AreClosing}
use Rattle.ux_chart.specs.declared.prepared.PreparedNet.{PreparedNet}

-- the parts, the closing states and the sharing are the net's
pub record IsPrepared (net : List NetGraph) (prepared : PreparedNet) : Type 0 where
  pub parts : ArePartsOf net prepared.parts
  pub closing : AreClosing net prepared.closing
  pub sharing : IsSharing net prepared.sharing
