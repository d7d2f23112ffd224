use Rattle.std.proofs.Common.{take}
use Rattle.ux_image_look_ups.specs.Steps.{Puts}
use Rattle.ux_image_look_ups.proofs.steps.push_all.Given as goal

-- the states were added to which the character leads from the states so far
abbrev pub invariant-loop-state : goal.invariant-loop-state
invariant-loop-state l =
    Puts l.states l.taken (take l.state-index l.from) l.initial.next l.next
