use Rattle.std.proofs.Common.{◌≡◌, take}
use Rattle.std.specs.Prelude.{map}
use Rattle.ux_digraph.specs.Grouping.{number_of}
use Rattle.ux_digraph.proofs.grouping.numbers_of.Given as goal

abbrev pub invariant-loop-mark : goal.invariant-loop-mark
invariant-loop-mark l = l.numbers.items ≡ map number_of (take l.mark-index l.marks)
