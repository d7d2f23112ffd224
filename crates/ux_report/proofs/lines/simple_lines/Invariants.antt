use Rattle.std.proofs.Common.{[], take}
use Rattle.ux_report.specs.Lines.{FromSome, HasMore, IsSimpleAt}
use Rattle.ux_report.proofs.lines.simple_lines.Given as goal

-- the lines of the places so far
abbrev pub invariant-loop-place : goal.invariant-loop-place
invariant-loop-place l =
    HasMore [] (FromSome (take l.place-index l.places) (IsSimpleAt l.applied)) l.lines.keys
