use Rattle.std.proofs.Common.{◌≡◌, take}
use Rattle.ux_chart.proofs.seen.move_few.Given as goal

abbrev pub invariant-loop-item : goal.invariant-loop-item
invariant-loop-item g l = l.many.keys ≡ take l.item-index l.few
