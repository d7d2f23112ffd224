use Rattle.ux_chart.proofs.Searching.{added_one}
use Rattle.ux_chart.proofs.seen.add.Goals as goal

pub returns : goal.returns
returns g c = added_one _ c.requires c.args.set.now.keys c.insert.new.self.keys c.args.item
    c.in_ok-insert.ensures.keys
