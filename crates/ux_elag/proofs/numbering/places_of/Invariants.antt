use Rattle.std.proofs.Common.{take}
use Rattle.ux_elag.specs.Numbering.{AreToldBy}
use Rattle.ux_elag.proofs.numbering.places_of.Given as goal

abbrev pub invariant-loop-link : goal.invariant-loop-link
invariant-loop-link l = AreToldBy l.texts (take l.link-index l.links) l.places.items
