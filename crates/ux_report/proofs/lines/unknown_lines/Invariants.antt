use Rattle.std.proofs.Common.{[], take}
use Rattle.ux_report.specs.Lines.{FromSome, HasMore, IsText}
use Rattle.ux_report.proofs.lines.unknown_lines.Given as goal

-- the lines of the numbers so far
abbrev pub invariant-loop-number : goal.invariant-loop-number
invariant-loop-number l =
    HasMore [] (FromSome (take l.number-index l.number-items) (IsText l.text l.places))
    l.lines.keys
