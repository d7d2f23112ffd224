use Rattle.std.proofs.Common.{arith}
use Rattle.std.proofs.lemmas.Grind.{common_steps}
use Rattle.ux_cmd_tfind.proofs.PrintingLemmas.{spans_more}
use Rattle.ux_cmd_tfind.proofs.printing.print_spans.Goals as goal

pub loop-span-preserved : goal.loop-span-preserved
loop-span-preserved c = grind (arith, common_steps, spans_more)
