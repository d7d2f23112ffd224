use Rattle.std.proofs.Common.{arith}
use Rattle.std.proofs.lemmas.Grind.{common_steps}
use Rattle.ux_fst2.proofs.shielding.find_sign.Goals as goal

pub returns-then-is_shielded_byte : goal.returns-then-is_shielded_byte
returns-then-is_shielded_byte c = grind (arith, common_steps)

pub loop-place-preserved : goal.loop-place-preserved
loop-place-preserved c = grind (arith, common_steps)

pub returns : goal.returns
returns c = grind (arith, common_steps)
