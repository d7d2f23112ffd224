use Rattle.std.proofs.Common.{take}
use Rattle.ux_inflect.specs.Outcomes.{AreEntriesFor}
use Rattle.ux_inflect.proofs.outcomes.entries_in.Given as goal

-- the entries of the lines so far are there
abbrev pub invariant-loop-line : goal.invariant-loop-line
invariant-loop-line l = AreEntriesFor l.stem (take l.line-index l.lines) l.entries.items
