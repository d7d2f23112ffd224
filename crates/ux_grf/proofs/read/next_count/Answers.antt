use Rattle.std.proofs.Common.{arith}
use Rattle.std.proofs.lemmas.Grind.{common_steps}
use Rattle.ux_grf.proofs.read.next_count.Goals as goal

pub returns-in_default-clause-err : goal.returns-in_default-clause-err
returns-in_default-clause-err c = grind (arith, common_steps)

pub read_count-requires-text-line : goal.read_count-requires-text-line
read_count-requires-text-line c κs = grind (arith, common_steps)

pub returns-in_err-count-clause-count : goal.returns-in_err-count-clause-count
returns-in_err-count-clause-count c = grind (arith, common_steps)

pub returns-in_err-count-clause-range : goal.returns-in_err-count-clause-range
returns-in_err-count-clause-range c = grind (arith, common_steps)

pub returns-in_err-count-clause-err : goal.returns-in_err-count-clause-err
returns-in_err-count-clause-err c = grind (arith, common_steps)

pub returns-in-Some-2-clause-count : goal.returns-in-Some-2-clause-count
returns-in-Some-2-clause-count c = grind (arith, common_steps)

pub returns-in-Some-2-clause-range : goal.returns-in-Some-2-clause-range
returns-in-Some-2-clause-range c = grind (arith, common_steps)

pub returns-in-None-clause-err : goal.returns-in-None-clause-err
returns-in-None-clause-err c = grind (arith, common_steps)
