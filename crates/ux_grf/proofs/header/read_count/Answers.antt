use Rattle.std.proofs.Common.{arith}
use Rattle.std.proofs.lemmas.Grind.{common_steps}
use Rattle.ux_grf.proofs.header.read_count.Goals as goal

pub returns-in-len1-clause-count : goal.returns-in-len1-clause-count
returns-in-len1-clause-count c = grind (arith, common_steps)

pub returns-clause-count : goal.returns-clause-count
returns-clause-count c = grind (arith, common_steps)

pub returns-then-eq-clause-count : goal.returns-then-eq-clause-count
returns-then-eq-clause-count c = grind (arith, common_steps)

pub returns-in_err-words-clause-count : goal.returns-in_err-words-clause-count
returns-in_err-words-clause-count c = grind (arith, common_steps)

pub returns-in_err-words-clause-range : goal.returns-in_err-words-clause-range
returns-in_err-words-clause-range c = grind (arith, common_steps)

pub bounds-word-0 : goal.bounds-word-0
bounds-word-0 c = grind (arith, common_steps)

pub slice_bounds-as_bytes-end : goal.slice_bounds-as_bytes-end
slice_bounds-as_bytes-end c = grind (arith, common_steps)

pub as_bytes-requires-in-len1-text-self : goal.as_bytes-requires-in-len1-text-self
as_bytes-requires-in-len1-text-self c κs = grind (arith, common_steps)

pub returns-in-len1-clause-range : goal.returns-in-len1-clause-range
returns-in-len1-clause-range c = grind (arith, common_steps)

pub returns-clause-range : goal.returns-clause-range
returns-clause-range c = grind (arith, common_steps)
