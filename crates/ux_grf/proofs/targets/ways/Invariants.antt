use Rattle.std.proofs.Common.{◌≡◌, take, map}
use Rattle.ux_grf.proofs.targets.ways.Given as goal

abbrev pub invariant-loop-line : goal.invariant-loop-line
invariant-loop-line l = l.ways.items ≡ map (λ b. b.targets.items) (take l.line-index l.boxes)
