use Rattle.std.proofs.Common.{arith}
use Rattle.std.proofs.lemmas.Grind.{common_steps}
use Rattle.ux_grf.proofs.box_line.read_targets.Goals as goal

pub returns-in_default : goal.returns-in_default
returns-in_default c = grind (arith, common_steps)

pub returns-then-not-is_coordinate_word : goal.returns-then-not-is_coordinate_word
returns-then-not-is_coordinate_word c = grind (arith, common_steps)

pub returns-in-Some : goal.returns-in-Some
returns-in-Some c = grind (arith, common_steps)

pub returns-in_default-number : goal.returns-in_default-number
returns-in_default-number c = grind (arith, common_steps)
