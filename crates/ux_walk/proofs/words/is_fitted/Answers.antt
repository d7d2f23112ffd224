use Rattle.std.proofs.Common.{arith}
use Rattle.std.proofs.lemmas.Grind.{common_steps}
use Rattle.ux_walk.proofs.words.is_fitted.Goals as goal

pub slice_bounds-fits-end : goal.slice_bounds-fits-end
slice_bounds-fits-end c = grind (arith, common_steps)

pub fits-requires-text-text : goal.fits-requires-text-text
fits-requires-text-text c κs = grind (arith, common_steps)
