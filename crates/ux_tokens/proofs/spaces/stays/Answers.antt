use Rattle.std.proofs.Common.{arith}
use Rattle.std.proofs.lemmas.Grind.{common_steps}
use Rattle.ux_tokens.proofs.spaces.stays.Goals as goal

pub returns-then-not-is_white_space-clause-yes : goal.returns-then-not-is_white_space-clause-yes
returns-then-not-is_white_space-clause-yes c = grind (arith, common_steps)

pub returns-then-byte-eq32-clause-yes : goal.returns-then-byte-eq32-clause-yes
returns-then-byte-eq32-clause-yes c = grind (arith, common_steps)

pub returns-then-byte-eq32-clause-no : goal.returns-then-byte-eq32-clause-no
returns-then-byte-eq32-clause-no c = grind (arith, common_steps)

pub returns-else-byte-eq32-clause-no : goal.returns-else-byte-eq32-clause-no
returns-else-byte-eq32-clause-no c = grind (arith, common_steps)
