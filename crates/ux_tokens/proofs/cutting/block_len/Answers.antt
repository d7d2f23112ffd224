use Rattle.std.proofs.Common.{arith}
use Rattle.std.proofs.lemmas.Grind.{common_steps}
use Rattle.ux_tokens.proofs.cutting.block_len.Goals as goal

pub returns-then-is_empty-clause-near : goal.returns-then-is_empty-clause-near
returns-then-is_empty-clause-near c = grind (arith, common_steps)

pub returns-then-is_empty-clause-plain : goal.returns-then-is_empty-clause-plain
returns-then-is_empty-clause-plain c = grind (arith, common_steps)
