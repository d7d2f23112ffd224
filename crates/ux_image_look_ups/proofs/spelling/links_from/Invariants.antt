use Rattle.std.proofs.Common.{take}
use Rattle.ux_image_look_ups.specs.Spelling.{Spells}
use Rattle.ux_image_look_ups.proofs.spelling.links_from.Given as goal

-- the links by the edges so far
abbrev pub invariant-loop-edge : goal.invariant-loop-edge
invariant-loop-edge l = Spells l.taken l.behind (take l.edge-index l.edges) l.links.items
