use Rattle.ux_monitor.proofs.LookUpsLemmas.{one_more}
use Rattle.ux_monitor.proofs.memory.put_at.Goals as goal

pub returns : goal.returns
returns g c = one_more g.K.PartialEq.eq c.args.key c.requires c.args.value
    c.args.map.now.entries c.insert.new.self.entries c.insert.result c.insert.ensures.entries
    c.insert.ensures.err

pub returns-in_err-insert : goal.returns-in_err-insert
returns-in_err-insert g c = one_more g.K.PartialEq.eq c.args.key c.requires c.args.value
    c.args.map.now.entries c.insert.new.self.entries c.insert.result c.insert.ensures.entries
    c.insert.ensures.err
