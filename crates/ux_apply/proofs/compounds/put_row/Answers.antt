use Rattle.std.proofs.Common.{arith}
use Rattle.std.proofs.lemmas.Grind.{common_steps}
use Rattle.ux_apply.proofs.compounds.put_row.Goals as goal

pub returns-else-not-is_empty-clause-here : goal.returns-else-not-is_empty-clause-here
returns-else-not-is_empty-clause-here g c = grind (arith, common_steps)
