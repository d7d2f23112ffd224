use Rattle.std.proofs.Common.{arith}
use Rattle.std.proofs.lemmas.Grind.{common_steps}
use Rattle.ux_digraph.proofs.grouping.open_node.Goals as goal

pub returns-clause-ahead : goal.returns-clause-ahead
returns-clause-ahead c = grind (arith, common_steps)
