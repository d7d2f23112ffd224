use Rattle.ux_base.specs.Lines.{lines_of}
use Rattle.ux_dela.specs.Delas.{DelasSays, RefusesDelas}
use Rattle.ux_base.proofs.EachLineLemmas.{IsReadTo}
use Rattle.ux_dela.proofs.delas.read_stems.Given as goal

-- the lines so far are read
abbrev pub invariant-loop-line : goal.invariant-loop-line
invariant-loop-line l = record {
  next : (goal.iterator-loop-line).can_next l.line-iterator;
  finite : (goal.iterator-loop-line).is_finite l.line-iterator;
  read : IsReadTo DelasSays RefusesDelas (lines_of l.text) l.line-iterator l.number l.stems.items;
}
