use Rattle.std.proofs.Common.{take}
use Rattle.ux_digraph.specs.Checking.{AreBelow}
use Rattle.ux_digraph.proofs.checking.are_below.Given as goal

abbrev pub invariant-loop-number : goal.invariant-loop-number
invariant-loop-number l = AreBelow (take l.number-index l.numbers) l.bound
