use Rattle.std.proofs.Common.{arith}
use Rattle.std.proofs.lemmas.Grind.{common_steps}
use Rattle.ux_compile.proofs.numbering.has_state.Goals as goal

pub get-requires : goal.get-requires
get-requires c κs = grind (arith, common_steps)

pub returns-else-place-ne1 : goal.returns-else-place-ne1
returns-else-place-ne1 c = grind (arith, common_steps)
