use Rattle.ux_image_look_ups.specs.Spelling.{TellsRow}
use Rattle.ux_image_look_ups.proofs.spelling.row_of.Given as goal

-- the states so far
abbrev pub invariant-loop-state : goal.invariant-loop-state
invariant-loop-state l = TellsRow l.states l.taken l.behind l.yielded l.row
