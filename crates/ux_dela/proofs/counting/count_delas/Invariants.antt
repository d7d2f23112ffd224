use Rattle.std.proofs.Common.{◌≤◌}
use Rattle.ux_base.specs.Lines.{lines_of}
use Rattle.ux_dela.specs.Delas.{DelasSays, RefusesDelas}
use Rattle.ux_dela.proofs.CountLemmas.{IsCountedTo}
use Rattle.ux_dela.proofs.counting.count_delas.Given as goal

-- the lines so far are counted
abbrev pub invariant-loop-line : goal.invariant-loop-line
invariant-loop-line l = record {
  next : (goal.iterator-loop-line).can_next l.line-iterator;
  finite : (goal.iterator-loop-line).is_finite l.line-iterator;
  counted : IsCountedTo DelasSays RefusesDelas (lines_of l.text) l.line-iterator l.number l.count;
  few : l.count ≤ l.number;
}
