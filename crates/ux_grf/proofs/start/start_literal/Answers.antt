use Rattle.std.proofs.Common.{arith}
use Rattle.std.proofs.lemmas.Grind.{common_steps}
use Rattle.ux_grf.proofs.start.start_literal.Goals as goal

pub returns-in_ok-resolve-in-Some-clause-leaves : goal.returns-in_ok-resolve-in-Some-clause-leaves
returns-in_ok-resolve-in-Some-clause-leaves c = grind (arith, common_steps)
