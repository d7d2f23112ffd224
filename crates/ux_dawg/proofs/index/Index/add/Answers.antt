use Rattle.ux_dawg.proofs.IndexLemmas.{begun_linked}
use Rattle.ux_dawg.proofs.index.Index.add.Goals as goal

pub link-requires-clause-linked : goal.link-requires-clause-linked
link-requires-clause-linked c =
    begun_linked c.args.hash c.args.number c.in_ok-item.item c.args.self.now c.begin.new.self
    c.in_ok-item.ensures.ok c.requires.linked
