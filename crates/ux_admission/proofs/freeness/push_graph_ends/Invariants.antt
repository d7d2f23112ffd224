use Rattle.std.proofs.Common.{◌≡◌, ◌+◌}
use Rattle.ux_boxes.specs.Places.{IsEndPlace}
use Rattle.ux_admission.specs.Gains.{Gains, SoBelow}
use Rattle.ux_admission.proofs.freeness.push_graph_ends.Given as goal

abbrev pub invariant-loop-n : goal.invariant-loop-n
invariant-loop-n l = Gains l.fn.ends.items l.ends.items
    (SoBelow l.n (λ n x. IsEndPlace l.places n × (l.base + n ≡ x)))
