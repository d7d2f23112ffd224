use Rattle.ux_chart.proofs.ClosingStateLemmas.{AreRowsUpTo}
use Rattle.ux_chart.proofs.closing_states.ClosingStates.of.Given as goal

-- the graphs so far have their rows
abbrev pub invariant-loop-before : goal.invariant-loop-before
invariant-loop-before l = AreRowsUpTo l.net l.rows.items l.before
