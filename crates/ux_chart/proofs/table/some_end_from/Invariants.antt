use Rattle.ux_chart.proofs.FirstEnds.{NoneBelow}
use Rattle.ux_chart.proofs.table.some_end_from.Given as goal

-- none of the answers so far has the position as its first end
abbrev pub invariant-loop-answer : goal.invariant-loop-answer
invariant-loop-answer l = NoneBelow l.answers l.positions l.at l.answer-index
