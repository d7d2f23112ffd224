use Rattle.std.proofs.Common.{take}
use Rattle.ux_report.specs.Lines.{FromSome, HasMore, IsLongerPrinted}
use Rattle.ux_report.proofs.lines.put_row.Given as goal

-- the lines of the entries so far
abbrev pub invariant-loop-last : goal.invariant-loop-last
invariant-loop-last l =
    HasMore l.fn.lines.keys (FromSome (take l.last-index l.row) (IsLongerPrinted l.first))
    l.lines.keys
