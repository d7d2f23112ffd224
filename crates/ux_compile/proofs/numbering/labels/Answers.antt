use Rattle.std.proofs.Common.{arith}
use Rattle.std.proofs.lemmas.Grind.{common_steps}
use Rattle.ux_compile.proofs.numbering.labels.Goals as goal

pub get-requires : goal.get-requires
get-requires c κs = grind (arith, common_steps)

pub get-requires-in-Some : goal.get-requires-in-Some
get-requires-in-Some c κs = grind (arith, common_steps)

pub slice_bounds-result-end : goal.slice_bounds-result-end
slice_bounds-result-end c = grind (arith, common_steps)

pub slice_bounds-result-end-in-None : goal.slice_bounds-result-end-in-None
slice_bounds-result-end-in-None c = grind (arith, common_steps)
