use Rattle.std.proofs.Common.{arith}
use Rattle.std.proofs.lemmas.Grind.{common_steps}
use Rattle.ux_dela.proofs.delaf.put_entries.Goals as goal

-- by name, so that a wrong body is refused at once
pub returns-then-has_mark : goal.returns-then-has_mark
returns-then-has_mark c = grind (arith, common_steps)
