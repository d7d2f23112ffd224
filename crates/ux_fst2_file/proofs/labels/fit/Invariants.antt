use Rattle.ux_fst2_file.specs.Labels.{FitsEdge}
use Rattle.ux_fst2_file.proofs.LabelLemmas.{AllBelow}
use Rattle.ux_fst2_file.proofs.labels.fit.Given as goal

abbrev pub invariant-loop-edge : goal.invariant-loop-edge
invariant-loop-edge l = AllBelow (FitsEdge l.limits) l.edges l.edge-index
