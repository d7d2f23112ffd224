use Rattle.ux_image_look_ups.specs.Spelling.{TellsEnds}
use Rattle.ux_image_look_ups.proofs.spelling.ends_of.Given as goal

-- the states so far
abbrev pub invariant-loop-state : goal.invariant-loop-state
invariant-loop-state l = TellsEnds l.states l.yielded l.row
