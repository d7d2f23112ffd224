use Rattle.std.proofs.Common.{◌≡◌, take}
use Rattle.ux_elag.specs.Ready.{numbered_steps}
use Rattle.ux_elag.proofs.ready.numbered_steps_of.Given as goal

abbrev pub invariant-loop-index : goal.invariant-loop-index
invariant-loop-index l = l.found.items ≡ numbered_steps 0 (take l.index l.steps)
