use Rattle.std.proofs.Common.{arith}
use Rattle.std.proofs.lemmas.Grind.{common_steps}
use Rattle.ux_cascade.proofs.TraceLemmas.{trace_more}
use Rattle.ux_cascade.proofs.trace.trace_text.Goals as goal

pub loop-round-preserved : goal.loop-round-preserved
loop-round-preserved c = grind (arith, common_steps, trace_more)
