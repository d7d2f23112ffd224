use Rattle.std.proofs.Common.{[], get_or}
use Rattle.ux_boxes.specs.Places.{places_of, label_lines}
use Rattle.ux_admission.specs.Gains.{Gains, SoBelow}
use Rattle.ux_admission.specs.Uses.{IsLinkAlong}
use Rattle.ux_admission.proofs.uses.push_target.Given as goal

abbrev pub invariant-loop-line : goal.invariant-loop-line
invariant-loop-line l = Gains l.fn.links.items l.links.items (SoBelow l.line-index
    (λ k. IsLinkAlong l.graphs l.graph l.source l.target
    (get_or (label_lines (places_of l.graphs l.graph) l.target) k [])))
