use Rattle.std.proofs.Common.{arith}
use Rattle.std.proofs.lemmas.Grind.{common_steps}
use Rattle.ux_grf.proofs.line.strip_sign.Goals as goal

pub after-requires-clause-inside : goal.after-requires-clause-inside
after-requires-clause-inside c = grind (arith, common_steps)

pub after-requires-clause-ascii : goal.after-requires-clause-ascii
after-requires-clause-ascii c = grind (arith, common_steps)

pub returns-then-eq-clause-some : goal.returns-then-eq-clause-some
returns-then-eq-clause-some c = grind (arith, common_steps)

pub returns-else-eq-clause-none : goal.returns-else-eq-clause-none
returns-else-eq-clause-none c = grind (arith, common_steps)
