use Rattle.std.proofs.Common.{◌≡◌, length}
use Rattle.ux_inflect.proofs.least.nothing_yet.Given as goal

abbrev pub invariant-loop-node : goal.invariant-loop-node
invariant-loop-node l = length l.best.items ≡ l.node
