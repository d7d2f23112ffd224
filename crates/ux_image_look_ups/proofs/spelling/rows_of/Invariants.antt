use Rattle.std.proofs.Common.{◌≤◌, length}
use Rattle.ux_image_look_ups.specs.Spelling.{Tells}
use Rattle.ux_image_look_ups.proofs.spelling.rows_of.Given as goal

-- the rows of the levels that aren't left
abbrev pub invariant-loop-left : goal.invariant-loop-left
invariant-loop-left l = (l.left ≤ length l.text)
    × Tells l.states l.alphabet l.text l.levels l.left l.rows.items

abbrev pub decreases-loop-left : goal.decreases-loop-left
decreases-loop-left l = l.left
