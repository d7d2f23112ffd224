use Rattle.std.proofs.Common.{arith}
use Rattle.std.proofs.lemmas.Grind.{common_steps}
use Rattle.ux_grf.proofs.read.good_box.Goals as goal

pub returns-in_err-said-clause-text : goal.returns-in_err-said-clause-text
returns-in_err-said-clause-text c = grind (arith, common_steps)

pub returns-in_err-said-clause-good : goal.returns-in_err-said-clause-good
returns-in_err-said-clause-good c = grind (arith, common_steps)

pub returns-in_err-said-clause-refused : goal.returns-in_err-said-clause-refused
returns-in_err-said-clause-refused c = grind (arith, common_steps)

pub returns-in_err-said-clause-len : goal.returns-in_err-said-clause-len
returns-in_err-said-clause-len c = grind (arith, common_steps)

pub returns-in_err-said-clause-below : goal.returns-in_err-said-clause-below
returns-in_err-said-clause-below c = grind (arith, common_steps)

pub overflow_add-node : goal.overflow_add-node
overflow_add-node c = grind (arith, common_steps)

pub each_once-requires-clause-inside : goal.each_once-requires-clause-inside
each_once-requires-clause-inside c = grind (arith, common_steps)

pub each_once-requires-clause-fresh : goal.each_once-requires-clause-fresh
each_once-requires-clause-fresh c = grind (arith, common_steps)

pub returns-in_err-targets-clause-text : goal.returns-in_err-targets-clause-text
returns-in_err-targets-clause-text c = grind (arith, common_steps)

pub returns-in_err-targets-clause-good : goal.returns-in_err-targets-clause-good
returns-in_err-targets-clause-good c = grind (arith, common_steps)

pub returns-in_err-targets-clause-refused : goal.returns-in_err-targets-clause-refused
returns-in_err-targets-clause-refused c = grind (arith, common_steps)

pub returns-in_err-targets-clause-len : goal.returns-in_err-targets-clause-len
returns-in_err-targets-clause-len c = grind (arith, common_steps)

pub returns-in_err-targets-clause-below : goal.returns-in_err-targets-clause-below
returns-in_err-targets-clause-below c = grind (arith, common_steps)

pub fact_in-result : goal.fact_in-result
fact_in-result c = grind (arith, common_steps)

pub returns-clause-text : goal.returns-clause-text
returns-clause-text c = grind (arith, common_steps)

pub returns-clause-good : goal.returns-clause-good
returns-clause-good c = grind (arith, common_steps)

pub returns-clause-len : goal.returns-clause-len
returns-clause-len c = grind (arith, common_steps)

pub returns-clause-below : goal.returns-clause-below
returns-clause-below c = grind (arith, common_steps)
