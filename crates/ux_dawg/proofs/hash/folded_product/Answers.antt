use Rattle.std.proofs.Common.{refl}
use Rattle.ux_dawg.specs.Hash.{folded}
use Rattle.ux_dawg.proofs.hash.folded_product.Goals as goal

pub returns : goal.returns
unfolding folded
returns c = refl
