use Rattle.std.proofs.Common.{length}
use Rattle.ux_fst2_file.proofs.ReadLemmas.{AreTagsTo}
use Rattle.ux_fst2_file.proofs.reading.read_tags.Given as goal

abbrev pub invariant-loop-line : goal.invariant-loop-line
invariant-loop-line l = AreTagsTo l.fn.cursor.lines l.cursor.lines l.tags.items

abbrev pub decreases-loop-line : goal.decreases-loop-line
decreases-loop-line l = length l.cursor.lines
