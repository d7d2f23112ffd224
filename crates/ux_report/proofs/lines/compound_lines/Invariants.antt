use Rattle.std.proofs.Common.{[]}
use Rattle.ux_report.specs.Lines.{HasMore, IsCompoundBefore}
use Rattle.ux_report.proofs.lines.compound_lines.Given as goal

-- the lines of the rows so far
abbrev pub invariant-loop-first : goal.invariant-loop-first
invariant-loop-first l = HasMore [] (IsCompoundBefore l.applied l.first) l.lines.keys
