use Rattle.std.proofs.Common.{arith}
use Rattle.std.proofs.lemmas.Grind.{common_steps}
use Rattle.ux_grf.proofs.marked.without_grf.Goals as goal

pub before-requires-clause-ascii : goal.before-requires-clause-ascii
before-requires-clause-ascii c = grind (arith, common_steps)
