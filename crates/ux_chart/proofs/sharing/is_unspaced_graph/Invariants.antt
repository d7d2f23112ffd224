use Rattle.ux_chart.proofs.SharingLemmas.{StatesBelow}
use Rattle.ux_chart.proofs.sharing.is_unspaced_graph.Given as goal

-- the states so far are unspaced
abbrev pub invariant-loop-state : goal.invariant-loop-state
invariant-loop-state l = StatesBelow l.net l.graph l.state
