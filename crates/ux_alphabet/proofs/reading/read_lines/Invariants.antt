use Rattle.ux_base.specs.Lines.{lines_of}
use Rattle.ux_base.proofs.EachLineLemmas.{IsReadTo}
use Rattle.ux_alphabet.specs.File.{LineSays, RefusesLine}
use Rattle.ux_alphabet.proofs.reading.read_lines.Given as goal

-- the lines so far are read
abbrev pub invariant-loop-line : goal.invariant-loop-line
invariant-loop-line l = record {
  next : (goal.iterator-loop-line).can_next l.line-iterator;
  finite : (goal.iterator-loop-line).is_finite l.line-iterator;
  read : IsReadTo LineSays RefusesLine (lines_of l.text) l.line-iterator l.number l.lines.items;
}
