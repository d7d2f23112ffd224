use Rattle.ux_chart.proofs.ClosingStateLemmas.{NoneCloses}
use Rattle.ux_chart.proofs.closing_states.some_closes.Given as goal

-- none of the edges so far closes a context
abbrev pub invariant-loop-edge : goal.invariant-loop-edge
invariant-loop-edge l = NoneCloses l.edges l.edge-index
