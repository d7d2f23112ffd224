use Rattle.ux_folds.proofs.ListsLemmas.{pushed}
use Rattle.ux_folds.proofs.lists.Lists.push.Goals as goal

pub returns : goal.returns
returns g c = pushed c.args.self.now.links.keys c.cons.new.self.links.keys c.args.last
    c.args.front c.in_ok-number.number c.in_ok-number.ensures c.stand_once.ensures
