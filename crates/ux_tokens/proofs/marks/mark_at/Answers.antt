use Rattle.std.proofs.Common.{arith}
use Rattle.std.proofs.lemmas.Grind.{common_steps}
use Rattle.ux_tokens.proofs.marks.mark_at.Goals as goal

pub returns-then-not-begins_with_brace-clause-exact : goal.returns-then-not-begins_with_brace-clause-exact
returns-then-not-begins_with_brace-clause-exact c = grind (arith, common_steps)

pub returns-in-Some-clause-exact : goal.returns-in-Some-clause-exact
returns-in-Some-clause-exact c = grind (arith, common_steps)

pub tag_len-requires-clause-brace : goal.tag_len-requires-clause-brace
tag_len-requires-clause-brace c = grind (arith, common_steps)

pub returns-in-None-clause-exact : goal.returns-in-None-clause-exact
returns-in-None-clause-exact c = grind (arith, common_steps)
