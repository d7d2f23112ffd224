use Rattle.std.proofs.Common.{◌≡◌, take}
use Rattle.ux_image_reader.specs.Tests.{used_by}
use Rattle.ux_image_reader.proofs.states.count_used.Given as goal

-- the lists that the states so far use
abbrev pub invariant-loop-number : goal.invariant-loop-number
invariant-loop-number l = l.used ≡ used_by (take l.number l.states)
