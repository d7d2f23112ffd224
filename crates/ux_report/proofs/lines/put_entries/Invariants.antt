use Rattle.std.proofs.Common.{take}
use Rattle.ux_report.specs.Lines.{FromSome, HasMore, IsPrinted}
use Rattle.ux_report.proofs.lines.put_entries.Given as goal

-- the lines of the entries so far
abbrev pub invariant-loop-entry : goal.invariant-loop-entry
invariant-loop-entry l =
    HasMore l.fn.lines.keys (FromSome (take l.entry-index l.entries) IsPrinted) l.lines.keys
