use Rattle.std.proofs.Common.{arith}
use Rattle.std.proofs.lemmas.Grind.{common_steps}
use Rattle.ux_fst2.proofs.shielding.put_shielded.Goals as goal

pub loop-place-smaller : goal.loop-place-smaller
loop-place-smaller c = grind (arith, common_steps)

pub loop-place-preserved : goal.loop-place-preserved
loop-place-preserved c = grind (arith, common_steps)
