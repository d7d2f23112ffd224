use Rattle.ux_folds.proofs.OnceLemmas.{are_once}
use Rattle.ux_folds.proofs.lists.stand_once.Goals as goal

pub returns : goal.returns
returns g = λ c. are_once _ c.requires c.args.set.now.keys c.len.ensures.unique
