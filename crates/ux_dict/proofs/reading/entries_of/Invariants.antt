use Rattle.ux_base.specs.Lines.{lines_of}
use Rattle.ux_dela.specs.Delaf.{DelafSays, RefusesDelaf}
use Rattle.ux_base.proofs.EachLineLemmas.{IsReadTo}
use Rattle.ux_dict.proofs.reading.entries_of.Given as goal

-- the lines so far are read
abbrev pub invariant-loop-line : goal.invariant-loop-line
invariant-loop-line l = record {
  next : (goal.iterator-loop-line).can_next l.line-iterator;
  finite : (goal.iterator-loop-line).is_finite l.line-iterator;
  read : IsReadTo DelafSays RefusesDelaf (lines_of l.text) l.line-iterator l.number l.kept.items;
}
