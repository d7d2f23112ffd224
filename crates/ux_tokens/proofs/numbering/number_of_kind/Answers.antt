use Rattle.std.proofs.Common.{arith}
use Rattle.std.proofs.lemmas.Grind.{common_steps}
use Rattle.ux_tokens.proofs.numbering.number_of_kind.Goals as goal

pub number_of_space-requires-clause-room : goal.number_of_space-requires-clause-room
number_of_space-requires-clause-room c = grind (arith, common_steps)

pub number_of_space-requires-clause-known : goal.number_of_space-requires-clause-known
number_of_space-requires-clause-known c = grind (arith, common_steps)

pub number_of_space-requires-clause-is : goal.number_of_space-requires-clause-is
number_of_space-requires-clause-is c = grind (arith, common_steps)

pub returns-then-eq-clause-texts : goal.returns-then-eq-clause-texts
returns-then-eq-clause-texts c = grind (arith, common_steps)

pub returns-then-eq-clause-place : goal.returns-then-eq-clause-place
returns-then-eq-clause-place c = grind (arith, common_steps)

pub returns-then-eq-clause-known : goal.returns-then-eq-clause-known
returns-then-eq-clause-known c = grind (arith, common_steps)

pub short_front-requires : goal.short_front-requires
short_front-requires c = grind (arith, common_steps)

pub number_of_short-requires-clause-room : goal.number_of_short-requires-clause-room
number_of_short-requires-clause-room c = grind (arith, common_steps)

pub number_of_short-requires-clause-known : goal.number_of_short-requires-clause-known
number_of_short-requires-clause-known c = grind (arith, common_steps)

pub number_of_short-requires-clause-some : goal.number_of_short-requires-clause-some
number_of_short-requires-clause-some c = grind (arith, common_steps)

pub number_of_short-requires-clause-is : goal.number_of_short-requires-clause-is
number_of_short-requires-clause-is c = grind (arith, common_steps)

pub number_of_long-requires-clause-room : goal.number_of_long-requires-clause-room
number_of_long-requires-clause-room c = grind (arith, common_steps)

pub number_of_long-requires-clause-known : goal.number_of_long-requires-clause-known
number_of_long-requires-clause-known c = grind (arith, common_steps)

pub returns-in-Some-clause-texts : goal.returns-in-Some-clause-texts
returns-in-Some-clause-texts c = grind (arith, common_steps)

pub returns-in-Some-clause-place : goal.returns-in-Some-clause-place
returns-in-Some-clause-place c = grind (arith, common_steps)

pub returns-in-Some-clause-known : goal.returns-in-Some-clause-known
returns-in-Some-clause-known c = grind (arith, common_steps)

pub returns-in-None-clause-texts : goal.returns-in-None-clause-texts
returns-in-None-clause-texts c = grind (arith, common_steps)

pub returns-in-None-clause-place : goal.returns-in-None-clause-place
returns-in-None-clause-place c = grind (arith, common_steps)

pub returns-in-None-clause-known : goal.returns-in-None-clause-known
returns-in-None-clause-known c = grind (arith, common_steps)
