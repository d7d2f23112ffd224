use Rattle.std.proofs.Common.{[], take}
use Rattle.ux_walk.specs.Noting.{Includes}
use Rattle.ux_walk.proofs.Collecting.{Among}
use Rattle.ux_morpho.specs.Putting.{RendersWhole}
use Rattle.ux_morpho.proofs.outputs.rendered.Given as goal

-- what the derivations so far render is there
abbrev pub invariant-loop-derivation : goal.invariant-loop-derivation
invariant-loop-derivation l =
    Includes (Among (RendersWhole l.letters) (take l.derivation-index l.found)) [] l.outputs.items
