use Rattle.ux_walk.proofs.SetsLemmas.{are_once}
use Rattle.ux_listing.proofs.sets.stand_once.Goals as goal

pub returns : goal.returns
returns g c = are_once _ c.requires c.args.set.now.keys c.len.ensures.unique
