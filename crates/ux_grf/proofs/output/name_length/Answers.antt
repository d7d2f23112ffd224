use Rattle.std.proofs.Common.{arith}
use Rattle.std.proofs.lemmas.Grind.{common_steps}
use Rattle.ux_grf.proofs.output.name_length.Goals as goal

pub returns-then-not-is_name_sign : goal.returns-then-not-is_name_sign
returns-then-not-is_name_sign c = grind (arith, common_steps)

pub loop-place-preserved : goal.loop-place-preserved
loop-place-preserved c = grind (arith, common_steps)

pub returns : goal.returns
returns c = grind (arith, common_steps)
