use Rattle.ux_chart.proofs.Entering.{row_of_all, told_none}
use Rattle.ux_chart.proofs.chart.Chart.told.Goals as goal

pub returns-in-None : goal.returns-in-None
returns-in-None c =
    let there = row_of_all c.args.self.now c.args.at c.requires.count c.requires.inside in (
      there.0,
      there.1,
      told_none c.args.parts.now c.args.self.now.table there.0 c.args.graph c.args.state
          c.in-None.ensures,
    )
