use Rattle.ux_walk.proofs.LookUpsLemmas.{one_more, is_put}
use Rattle.ux_walk.proofs.look_ups.put_at.Goals as goal

pub returns-clause-put : goal.returns-clause-put
returns-clause-put g c = is_put g.K.PartialEq.eq c.args.key c.requires
    c.insert.new.self.entries c.args.value c.in_ok-insert.ensures.updates.1

pub returns-clause-only : goal.returns-clause-only
returns-clause-only g c = one_more g.K.PartialEq.eq c.args.key c.requires c.args.value
    c.args.map.now.entries c.insert.new.self.entries c.insert.result c.insert.ensures.entries
    c.insert.ensures.err
