use Rattle.std.proofs.Common.{arith}
use Rattle.std.proofs.lemmas.Grind.{common_steps}
use Rattle.ux_tokens.proofs.numbering.number_of_long.Goals as goal

pub number_of-requires : goal.number_of-requires
number_of-requires c = grind (arith, common_steps)

pub returns-clause-texts : goal.returns-clause-texts
returns-clause-texts c = grind (arith, common_steps)

pub returns-clause-place : goal.returns-clause-place
returns-clause-place c = grind (arith, common_steps)
