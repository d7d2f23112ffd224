use Rattle.std.proofs.Common.{arith}
use Rattle.std.proofs.lemmas.Grind.{common_steps}
use Rattle.ux_digraph.proofs.closing.apply.Goals as goal

pub returns-clause-applied : goal.returns-clause-applied
returns-clause-applied c = grind (arith, common_steps)
