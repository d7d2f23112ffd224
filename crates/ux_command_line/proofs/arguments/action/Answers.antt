use Rattle.std.proofs.Common.{arith}
use Rattle.std.proofs.lemmas.Grind.{common_steps}
use Rattle.ux_command_line.proofs.arguments.action.Goals as goal

-- by name, so that a wrong body is refused at once
pub returns-else-is_flag : goal.returns-else-is_flag
returns-else-is_flag c = grind (arith, common_steps)
