use Rattle.std.proofs.Common.{arith}
use Rattle.std.proofs.lemmas.Grind.{common_steps}
use Rattle.ux_tokens.proofs.entries.put_entry.Goals as goal

pub returns-then-contains_key : goal.returns-then-contains_key
returns-then-contains_key c = grind (arith, common_steps)

pub read_entry-requires : goal.read_entry-requires
read_entry-requires c = grind (arith, common_steps)

pub returns-in_err-entry : goal.returns-in_err-entry
returns-in_err-entry c = grind (arith, common_steps)

pub returns-in_err-insert : goal.returns-in_err-insert
returns-in_err-insert c = grind (arith, common_steps)
