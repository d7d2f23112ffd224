use Rattle.ux_image_look_ups.specs.Spelling.{AreLevelsTo}
use Rattle.ux_image_look_ups.proofs.spelling.levels_of.Given as goal

-- the levels of the characters so far
abbrev pub invariant-loop-place : goal.invariant-loop-place
invariant-loop-place l = AreLevelsTo l.place l.states l.alphabet l.text l.levels.items
