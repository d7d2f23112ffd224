use Rattle.ux_monitor.proofs.LookUpsLemmas.{looked_up}
use Rattle.ux_monitor.proofs.memory.at.Goals as goal

pub returns : goal.returns
returns g c = looked_up g.K.PartialEq.eq c.args.key c.requires c.args.map.now.entries c.get.result
    c.get.ensures.value
