use Rattle.std.proofs.Common.{arith}
use Rattle.std.proofs.lemmas.Grind.{common_steps}
use Rattle.ux_walk.proofs.words.Words.of.Goals as goal

pub returns-in_err-texts : goal.returns-in_err-texts
returns-in_err-texts c = grind (arith, common_steps)

pub returns-in_err-counts : goal.returns-in_err-counts
returns-in_err-counts c = grind (arith, common_steps)

pub raised_of-requires : goal.raised_of-requires
raised_of-requires c = grind (arith, common_steps)

pub returns-in_err-raised : goal.returns-in_err-raised
returns-in_err-raised c = grind (arith, common_steps)

pub same-texts : goal.same-texts
same-texts c = grind (arith, common_steps)
