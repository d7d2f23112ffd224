use Rattle.ux_walk.proofs.SetsLemmas.{inserted}
use Rattle.ux_walk.proofs.sets.put.Goals as goal

pub returns : goal.returns
returns c = λ d. inserted _ d.requires d.args.set.now.keys d.insert.new.self.keys d.args.item
    d.in_ok-insert.ensures.keys
