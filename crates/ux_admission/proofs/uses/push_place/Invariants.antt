use Rattle.std.proofs.Common.{get_or}
use Rattle.ux_boxes.specs.Places.{places_of, place_targets}
use Rattle.ux_admission.specs.Gains.{Gains, SoBelow}
use Rattle.ux_admission.proofs.UsesLemmas.{IsLinkTo}
use Rattle.ux_admission.proofs.uses.push_place.Given as goal

abbrev pub invariant-loop-target : goal.invariant-loop-target
invariant-loop-target l = Gains l.fn.links.items l.links.items (SoBelow l.target-index
    (λ k. IsLinkTo l.graphs l.graph l.source
    (get_or (place_targets (places_of l.graphs l.graph) l.source) k 0)))
