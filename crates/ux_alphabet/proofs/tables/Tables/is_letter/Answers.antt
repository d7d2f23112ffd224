use Rattle.std.proofs.Common.{arith}
use Rattle.std.proofs.lemmas.Grind.{common_steps}
use Rattle.ux_alphabet.proofs.tables.Tables.is_letter.Goals as goal

pub overflow_cast-c : goal.overflow_cast-c
overflow_cast-c c = grind (arith, common_steps)
