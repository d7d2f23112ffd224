use Rattle.ux_admission.specs.Gains.{Gains, SoBelow}
use Rattle.ux_admission.specs.Ways.{IsWayFrom}
use Rattle.ux_admission.proofs.ways.push_graph.Given as goal

abbrev pub invariant-loop-source : goal.invariant-loop-source
invariant-loop-source l =
    Gains l.fn.ways.items l.ways.items (SoBelow l.source (IsWayFrom l.graphs l.graph))
