use Rattle.ux_chart.proofs.SharingLemmas.{EdgesBelow}
use Rattle.ux_chart.proofs.sharing.are_unspaced.Given as goal

-- the edges so far are unspaced
abbrev pub invariant-loop-edge : goal.invariant-loop-edge
invariant-loop-edge l = EdgesBelow l.edges l.edge-index
