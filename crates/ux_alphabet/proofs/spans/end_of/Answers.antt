use Rattle.std.proofs.Common.{arith}
use Rattle.std.proofs.lemmas.Grind.{common_steps}
use Rattle.ux_alphabet.proofs.spans.end_of.Goals as goal

pub loop-span-preserved : goal.loop-span-preserved
loop-span-preserved c = grind (arith, common_steps)
