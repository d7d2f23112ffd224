use Rattle.std.proofs.Common.{arith}
use Rattle.std.proofs.lemmas.Grind.{common_steps}
use Rattle.ux_walk.proofs.words.fits.Goals as goal

pub returns-in-CaseFolded : goal.returns-in-CaseFolded
returns-in-CaseFolded c = grind (arith, common_steps)

pub returns-in-Empty : goal.returns-in-Empty
returns-in-Empty c = grind (arith, common_steps)

pub returns-in-Empty-2 : goal.returns-in-Empty-2
returns-in-Empty-2 c = grind (arith, common_steps)

pub returns-in-Empty-3 : goal.returns-in-Empty-3
returns-in-Empty-3 c = grind (arith, common_steps)

pub returns-in-Empty-4 : goal.returns-in-Empty-4
returns-in-Empty-4 c = grind (arith, common_steps)
