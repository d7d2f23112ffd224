use Rattle.std.proofs.Common.{take}
use Rattle.ux_tfst_locate.specs.Lattices.{AreArcs}
use Rattle.ux_tfst_locate.proofs.lattice.each_arc.Given as goal

-- the arcs of the links so far
abbrev pub invariant-loop-link : goal.invariant-loop-link
invariant-loop-link l = AreArcs l.places (take l.link-index l.links) l.arcs.items
