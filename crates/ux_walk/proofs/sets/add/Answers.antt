use Rattle.ux_walk.proofs.SetsLemmas.{added}
use Rattle.ux_walk.proofs.sets.add.Goals as goal

pub returns : goal.returns
returns g c = added g.T.PartialEq.eq c.requires c.args.set.now.keys c.insert_full.new.self.keys
    c.args.item c.in_ok-is_new.is_new c.in_ok-is_new.ensures.added c.in_ok-is_new.ensures.keys
