use Rattle.std.proofs.Common.{arith}
use Rattle.std.proofs.lemmas.Grind.{common_steps}
use Rattle.ux_grf.proofs.output.find_value.Goals as goal

pub returns-then-begins_value-clause-place : goal.returns-then-begins_value-clause-place
returns-then-begins_value-clause-place c = grind (arith, common_steps)

pub returns-then-begins_value-clause-named : goal.returns-then-begins_value-clause-named
returns-then-begins_value-clause-named c = grind (arith, common_steps)

pub loop-place-preserved : goal.loop-place-preserved
loop-place-preserved c = grind (arith, common_steps)

pub returns-clause-place : goal.returns-clause-place
returns-clause-place c = grind (arith, common_steps)

pub loop-place-init : goal.loop-place-init
loop-place-init c = grind (arith, common_steps)

pub bounds-bytes-place : goal.bounds-bytes-place
bounds-bytes-place c = grind (arith, common_steps)

pub overflow_add-place : goal.overflow_add-place
overflow_add-place c = grind (arith, common_steps)

pub slice_bounds-begins_value-count : goal.slice_bounds-begins_value-count
slice_bounds-begins_value-count c = grind (arith, common_steps)

pub slice_bounds-begins_value-start : goal.slice_bounds-begins_value-start
slice_bounds-begins_value-start c = grind (arith, common_steps)

pub slice_bounds-begins_value-end : goal.slice_bounds-begins_value-end
slice_bounds-begins_value-end c = grind (arith, common_steps)

pub returns-then-begins_value-clause-inside : goal.returns-then-begins_value-clause-inside
returns-then-begins_value-clause-inside c = grind (arith, common_steps)

pub returns-then-begins_value-clause-dollar : goal.returns-then-begins_value-clause-dollar
returns-then-begins_value-clause-dollar c = grind (arith, common_steps)
