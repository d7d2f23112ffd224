use Rattle.std.proofs.Common.{take}
use Rattle.ux_elag.proofs.LinksLemmas.{ArePlaced}
use Rattle.ux_elag.proofs.placing.placed_links.Given as goal

abbrev pub invariant-loop-link : goal.invariant-loop-link
invariant-loop-link l = ArePlaced l.states (take l.link-index l.links) l.found.items
