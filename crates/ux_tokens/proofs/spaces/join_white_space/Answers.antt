use Rattle.std.proofs.Common.{arith}
use Rattle.std.proofs.lemmas.Grind.{common_steps}
use Rattle.ux_tokens.proofs.spaces.join_white_space.Goals as goal

pub loop-place-init : goal.loop-place-init
loop-place-init c = grind (arith, common_steps)

pub join_front-front-requires-clause-in_order : goal.join_front-front-requires-clause-in_order
join_front-front-requires-clause-in_order c = grind (arith, common_steps)

pub join_front-front-requires-clause-within : goal.join_front-front-requires-clause-within
join_front-front-requires-clause-within c = grind (arith, common_steps)

pub overflow_add-place : goal.overflow_add-place
overflow_add-place c = grind (arith, common_steps)

pub overflow_add-joined : goal.overflow_add-joined
overflow_add-joined c = grind (arith, common_steps)

pub returns-then-place-bytes-clause-len : goal.returns-then-place-bytes-clause-len
returns-then-place-bytes-clause-len c = grind (arith, common_steps)

pub returns-then-place-bytes-clause-within : goal.returns-then-place-bytes-clause-within
returns-then-place-bytes-clause-within c = grind (arith, common_steps)

pub returns-then-place-bytes-clause-joined : goal.returns-then-place-bytes-clause-joined
returns-then-place-bytes-clause-joined c = grind (arith, common_steps)

pub join_run-place-requires-clause-in_order : goal.join_run-place-requires-clause-in_order
join_run-place-requires-clause-in_order c = grind (arith, common_steps)

pub join_run-place-requires-clause-within : goal.join_run-place-requires-clause-within
join_run-place-requires-clause-within c = grind (arith, common_steps)

pub join_run-place-requires-clause-white : goal.join_run-place-requires-clause-white
join_run-place-requires-clause-white c = grind (arith, common_steps)

pub overflow_add-place-in-loop-place : goal.overflow_add-place-in-loop-place
overflow_add-place-in-loop-place c = grind (arith, common_steps)

pub overflow_add-joined-in-loop-place : goal.overflow_add-joined-in-loop-place
overflow_add-joined-in-loop-place c = grind (arith, common_steps)

pub loop-place-smaller : goal.loop-place-smaller
loop-place-smaller c = grind (arith, common_steps)

pub loop-place-preserved : goal.loop-place-preserved
loop-place-preserved c = grind (arith, common_steps)

pub returns-clause-len : goal.returns-clause-len
returns-clause-len c = grind (arith, common_steps)

pub returns-clause-within : goal.returns-clause-within
returns-clause-within c = grind (arith, common_steps)

pub returns-clause-joined : goal.returns-clause-joined
returns-clause-joined c = grind (arith, common_steps)
