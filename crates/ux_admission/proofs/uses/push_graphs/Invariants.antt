use Rattle.std.proofs.Common.{◌+◌}
use Rattle.ux_admission.specs.Gains.{Gains, SoBelow}
use Rattle.ux_admission.specs.Uses.{IsLinkIn}
use Rattle.ux_admission.proofs.uses.push_graphs.Given as goal

abbrev pub invariant-loop-k : goal.invariant-loop-k
invariant-loop-k l =
    Gains l.fn.links.items l.links.items (SoBelow l.k (λ k. IsLinkIn l.graphs (k + 1)))
