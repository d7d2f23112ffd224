use Rattle.std.proofs.Common.{◌≡◌, take}
use Rattle.ux_folds.proofs.numbered.move_few.Given as goal

-- so many are in the set
abbrev pub invariant-loop-value : goal.invariant-loop-value
invariant-loop-value g l = l.many.keys ≡ take l.value-index l.few
