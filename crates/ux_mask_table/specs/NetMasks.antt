-- The masks of a net. Public: the contracts of the table speak of them.
use Rattle.std.specs.Prelude.{List}
use Rattle.ux_net.specs.declared.net_graph.NetGraph.{NetGraph}
use Rattle.ux_net.specs.Masks.{AreMasksOf, masks_in}
use Rattle.ux_mask_table.specs.declared.net_masks.NetMasks.{NetMasks}

-- these are the masks of the net, each once
abbrev pub AreNetMasks : List NetGraph → NetMasks → Type 0
AreNetMasks net masks = AreMasksOf net (masks_in masks.set)
