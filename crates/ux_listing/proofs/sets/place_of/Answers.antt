use Rattle.ux_listing.proofs.SetsLemmas.{numbered}
use Rattle.ux_listing.proofs.sets.place_of.Goals as goal

pub returns : goal.returns
returns g c = numbered _ c.requires.same c.requires.itself c.args.set.now.keys c.args.item
    c.place_of.result c.place_of.ensures.index c.place_of.ensures.found c.stand_once.ensures
