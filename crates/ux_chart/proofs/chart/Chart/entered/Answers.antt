use Rattle.ux_chart.proofs.Entering.{row_there, told_empty, told_none}
use Rattle.ux_chart.proofs.chart.Chart.entered.Goals as goal

pub returns-in-None : goal.returns-in-None
returns-in-None c =
    let there = row_there c.args.self.now c.args.begun c.args.at c.requires.count c.requires.from
    c.requires.to in (
      there.0,
      there.1,
      told_none c.args.parts.now c.args.self.now.table there.0 c.args.graph c.args.state
          c.in-None.ensures,
    )

pub returns-then-row : goal.returns-then-row
returns-then-row c = (
  c.row_at-row.result,
  c.row_at-row.ensures,
  told_empty c.args.parts.now c.args.self.now.table c.row_at-row.result c.args.graph
      c.args.state c.if-row.true,
)
