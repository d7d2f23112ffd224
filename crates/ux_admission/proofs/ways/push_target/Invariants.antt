use Rattle.std.proofs.Common.{[], get_or}
use Rattle.ux_boxes.specs.Places.{places_of, label_lines}
use Rattle.ux_admission.specs.Gains.{Gains, SoBelow}
use Rattle.ux_admission.specs.Ways.{IsWayAlong}
use Rattle.ux_admission.proofs.ways.push_target.Given as goal

abbrev pub invariant-loop-line : goal.invariant-loop-line
invariant-loop-line l = Gains l.fn.ways.items l.ways.items (SoBelow l.line-index
    (λ k. IsWayAlong l.graphs l.graph l.source l.target
    (get_or (label_lines (places_of l.graphs l.graph) l.target) k [])))
