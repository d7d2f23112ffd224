use Rattle.std.proofs.Common.{◌<◌, ◌+◌, ◌^◌, length}
use Rattle.ux_fst2_file.proofs.ReadLemmas.{AreStatesTo}
use Rattle.ux_fst2_file.proofs.reading.read_states.Given as goal

abbrev pub invariant-loop-line : goal.invariant-loop-line
invariant-loop-line l = record {
  few : length l.states.items < 2 ^ 32;
  read : AreStatesTo l.fn.cursor.lines l.cursor.lines (l.fn.cursor.number + 1) l.cursor.number
      l.states.items;
}

abbrev pub decreases-loop-line : goal.decreases-loop-line
decreases-loop-line l = length l.cursor.lines
