use Rattle.std.proofs.Common.{arith}
use Rattle.std.proofs.lemmas.Grind.{common_steps}
use Rattle.ux_grf.proofs.read.told_box.Goals as goal

pub returns-in_default-clause-refused : goal.returns-in_default-clause-refused
returns-in_default-clause-refused c = grind (arith, common_steps)

pub read_box_line-requires-text-line : goal.read_box_line-requires-text-line
read_box_line-requires-text-line c κs = grind (arith, common_steps)

pub returns-in_err-said-clause-told : goal.returns-in_err-said-clause-told
returns-in_err-said-clause-told c = grind (arith, common_steps)

pub returns-in_err-said-clause-inside : goal.returns-in_err-said-clause-inside
returns-in_err-said-clause-inside c = grind (arith, common_steps)

pub returns-in_err-said-clause-good : goal.returns-in_err-said-clause-good
returns-in_err-said-clause-good c = grind (arith, common_steps)

pub returns-in_err-said-clause-refused : goal.returns-in_err-said-clause-refused
returns-in_err-said-clause-refused c = grind (arith, common_steps)

pub returns-in_default-2-clause-refused : goal.returns-in_default-2-clause-refused
returns-in_default-2-clause-refused c = grind (arith, common_steps)

pub returns-then-not-are_inside-clause-refused : goal.returns-then-not-are_inside-clause-refused
returns-then-not-are_inside-clause-refused c = grind (arith, common_steps)

pub returns-clause-told : goal.returns-clause-told
returns-clause-told c = grind (arith, common_steps)

pub returns-clause-inside : goal.returns-clause-inside
returns-clause-inside c = grind (arith, common_steps)

pub returns-clause-good : goal.returns-clause-good
returns-clause-good c = grind (arith, common_steps)
