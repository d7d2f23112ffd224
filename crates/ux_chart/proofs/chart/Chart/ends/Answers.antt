use Rattle.ux_chart.proofs.Telling.{chart_answer, derives}
use Rattle.ux_chart.proofs.chart.Chart.ends.Goals as goal

pub returns-clause-exact : goal.returns-clause-exact
returns-clause-exact g c =
    let told = c.told.ensures in
    derives (g.B.Basis.input c.args.basis.now) c.args.net.now c.args.parts.now c.requires.parts
    (g.B.Basis.last c.args.basis.now) c.args.graph c.args.at c.told.result.ends.now
    c.told.result.closers.now
    (chart_answer (g.B.Basis.input c.args.basis.now) c.args.net.now c.args.parts.now
    c.requires.parts (g.B.Basis.last c.args.basis.now) c.args.self.now c.requires.chart
    c.args.graph 0 c.args.at
    (c.requires.parts.graphs c.args.graph c.requires.from c.requires.to) c.requires.inside told.0
    told.1 c.told.result.ends.now c.told.result.closers.now told.2)

pub returns-clause-ascending : goal.returns-clause-ascending
returns-clause-ascending g c =
    let told = c.told.ensures in
    let answer = chart_answer (g.B.Basis.input c.args.basis.now) c.args.net.now
    c.args.parts.now c.requires.parts (g.B.Basis.last c.args.basis.now) c.args.self.now
    c.requires.chart c.args.graph 0 c.args.at
    (c.requires.parts.graphs c.args.graph c.requires.from c.requires.to) c.requires.inside told.0
    told.1 c.told.result.ends.now c.told.result.closers.now told.2 in
    answer.ends_ascend
