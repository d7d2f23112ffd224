use Rattle.std.proofs.Common.{◌+◌}
use Rattle.ux_admission.specs.Gains.{Gains, SoBelow}
use Rattle.ux_admission.specs.Ways.{IsWayOf}
use Rattle.ux_admission.proofs.ways.push_graphs.Given as goal

abbrev pub invariant-loop-k : goal.invariant-loop-k
invariant-loop-k l =
    Gains l.fn.ways.items l.ways.items (SoBelow l.k (λ k. IsWayOf l.graphs (k + 1)))
