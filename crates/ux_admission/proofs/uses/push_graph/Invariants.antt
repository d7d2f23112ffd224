use Rattle.ux_admission.specs.Gains.{Gains, SoBelow}
use Rattle.ux_admission.specs.Uses.{IsLinkFrom}
use Rattle.ux_admission.proofs.uses.push_graph.Given as goal

abbrev pub invariant-loop-source : goal.invariant-loop-source
invariant-loop-source l =
    Gains l.fn.links.items l.links.items (SoBelow l.source (IsLinkFrom l.graphs l.graph))
