use Rattle.ux_chart.proofs.ClosingStateLemmas.{AreMarksBelow}
use Rattle.ux_chart.proofs.closing_states.marks_of.Given as goal

-- the states so far have their marks
abbrev pub invariant-loop-state : goal.invariant-loop-state
invariant-loop-state l = AreMarksBelow l.net l.graph l.marks.items l.state
