use Rattle.std.proofs.Common.{arith}
use Rattle.std.proofs.lemmas.Grind.{common_steps}
use Rattle.ux_net.proofs.net.Net.state.Goals as goal

pub overflow_cast-graph : goal.overflow_cast-graph
overflow_cast-graph c = grind (arith, common_steps)

pub returns-in_err-checked_sub : goal.returns-in_err-checked_sub
returns-in_err-checked_sub c = grind (arith, common_steps)

pub get-requires : goal.get-requires
get-requires c κs = grind (arith, common_steps)

pub overflow_cast-state : goal.overflow_cast-state
overflow_cast-state c = grind (arith, common_steps)

pub get-requires-2 : goal.get-requires-2
get-requires-2 c κs = grind (arith, common_steps)
