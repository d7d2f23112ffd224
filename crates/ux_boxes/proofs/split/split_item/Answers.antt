use Rattle.std.proofs.Common.{arith}
use Rattle.std.proofs.lemmas.Grind.{common_steps}
use Rattle.ux_boxes.proofs.split.split_item.Goals as goal

pub returns-in-Literal : goal.returns-in-Literal
returns-in-Literal c = grind (arith, common_steps)

pub returns-in-Quoted : goal.returns-in-Quoted
returns-in-Quoted c = grind (arith, common_steps)

pub returns-in_err-push-in-NoSpace : goal.returns-in_err-push-in-NoSpace
returns-in_err-push-in-NoSpace c = grind (arith, common_steps)

pub returns-in-NoSpace : goal.returns-in-NoSpace
returns-in-NoSpace c = grind (arith, common_steps)

pub returns-in_err-push-in-Empty : goal.returns-in_err-push-in-Empty
returns-in_err-push-in-Empty c = grind (arith, common_steps)

pub returns-in-Empty : goal.returns-in-Empty
returns-in-Empty c = grind (arith, common_steps)

pub push_call-requires-clause-few : goal.push_call-requires-clause-few
push_call-requires-clause-few c = grind (arith, common_steps)

pub push_call-requires-clause-there : goal.push_call-requires-clause-there
push_call-requires-clause-there c = grind (arith, common_steps)

pub returns-in-Call : goal.returns-in-Call
returns-in-Call c = grind (arith, common_steps)

pub returns-in_err-push-in-Positive : goal.returns-in_err-push-in-Positive
returns-in_err-push-in-Positive c = grind (arith, common_steps)

pub returns-in-Positive : goal.returns-in-Positive
returns-in-Positive c = grind (arith, common_steps)

pub returns-in_err-push-in-Negative : goal.returns-in_err-push-in-Negative
returns-in_err-push-in-Negative c = grind (arith, common_steps)

pub returns-in-Negative : goal.returns-in-Negative
returns-in-Negative c = grind (arith, common_steps)

pub returns-in_err-push-in-ContextEnd : goal.returns-in_err-push-in-ContextEnd
returns-in_err-push-in-ContextEnd c = grind (arith, common_steps)

pub returns-in-ContextEnd : goal.returns-in-ContextEnd
returns-in-ContextEnd c = grind (arith, common_steps)

pub returns-in_err-push-in-Cut : goal.returns-in_err-push-in-Cut
returns-in_err-push-in-Cut c = grind (arith, common_steps)

pub returns-in-Cut : goal.returns-in-Cut
returns-in-Cut c = grind (arith, common_steps)
