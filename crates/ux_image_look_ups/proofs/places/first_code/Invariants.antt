use Rattle.std.proofs.Common.{take}
use Rattle.std.specs.Prelude.{None}
use Rattle.ux_image_look_ups.specs.Steps.{EndsBy}
use Rattle.ux_image_look_ups.proofs.places.first_code.Given as goal

-- no form ends in the states so far
abbrev pub invariant-loop-number : goal.invariant-loop-number
invariant-loop-number l = EndsBy l.states (take l.number-index l.numbers) None
