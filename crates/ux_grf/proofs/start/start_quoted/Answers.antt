use Rattle.std.proofs.Common.{arith}
use Rattle.std.proofs.lemmas.Grind.{common_steps}
use Rattle.ux_grf.proofs.start.start_quoted.Goals as goal

pub returns-clause-leaves : goal.returns-clause-leaves
returns-clause-leaves c = grind (arith, common_steps)

pub after-inside-requires-clause-inside : goal.after-inside-requires-clause-inside
after-inside-requires-clause-inside c = grind (arith, common_steps)

pub after-inside-requires-clause-ascii : goal.after-inside-requires-clause-ascii
after-inside-requires-clause-ascii c = grind (arith, common_steps)

pub returns-in_default-clause-begins : goal.returns-in_default-clause-begins
returns-in_default-clause-begins c = grind (arith, common_steps)

pub before-requires-clause-inside : goal.before-requires-clause-inside
before-requires-clause-inside c = grind (arith, common_steps)

pub before-requires-clause-ascii : goal.before-requires-clause-ascii
before-requires-clause-ascii c = grind (arith, common_steps)

pub returns-in_err-resolve-clause-begins : goal.returns-in_err-resolve-clause-begins
returns-in_err-resolve-clause-begins c = grind (arith, common_steps)

pub returns-in_err-resolve-clause-leaves : goal.returns-in_err-resolve-clause-leaves
returns-in_err-resolve-clause-leaves c = grind (arith, common_steps)

pub after-requires-clause-inside : goal.after-requires-clause-inside
after-requires-clause-inside c = grind (arith, common_steps)

pub after-requires-clause-ascii : goal.after-requires-clause-ascii
after-requires-clause-ascii c = grind (arith, common_steps)

pub returns-clause-begins : goal.returns-clause-begins
returns-clause-begins c = grind (arith, common_steps)
