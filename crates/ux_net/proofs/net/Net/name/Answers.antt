use Rattle.std.proofs.Common.{arith}
use Rattle.std.proofs.lemmas.Grind.{common_steps}
use Rattle.ux_net.proofs.net.Net.name.Goals as goal

pub overflow_sub-graph : goal.overflow_sub-graph
overflow_sub-graph c = grind (arith, common_steps)

pub index-requires : goal.index-requires
index-requires c = grind (arith, common_steps)
