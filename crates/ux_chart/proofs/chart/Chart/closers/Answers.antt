use Rattle.std.proofs.Common.{subst, sym}
use Rattle.ux_parts.specs.Parts.{TellsClosing}
use Rattle.ux_chart.proofs.Telling.{chart_answer, opened_part, opened_negative, opened_positive, tells_positive, tells_negative, refused_ascends}
use Rattle.ux_chart.proofs.chart.Chart.closers.Goals as goal

pub returns-in-Negative-clause-exact : goal.returns-in-Negative-clause-exact
returns-in-Negative-clause-exact g c =
    let input = g.B.Basis.input c.args.basis.now in
    let last = g.B.Basis.last c.args.basis.now in
    let net = c.args.net.now in
    let parts = c.args.parts.now in
    let are = c.requires.parts in
    let edge = c.args.edge.now in
    let told = c.told-reached.ensures in
    tells_negative input net parts are last c.requires.chart.ahead c.args.graph edge.target
    c.args.at edge.label c.in-Negative.is c.closing.result.now
    (subst (λ l. TellsClosing net c.args.graph edge.target l) (sym c.closing.ensures)
    (opened_negative input net parts are last c.args.graph edge c.requires.opens c.in-Negative.is))
    c.told-reached.result.ends.now c.told-reached.result.closers.now
    (chart_answer input net parts are last c.args.self.now c.requires.chart c.args.graph
    edge.target c.args.at
    (opened_part input net parts are last c.args.graph edge c.requires.opens) c.requires.inside
    told.0 told.1 c.told-reached.result.ends.now c.told-reached.result.closers.now told.2)
    c.refused_into.result.now c.refused_into.ensures

pub returns-in-Negative-clause-ascending : goal.returns-in-Negative-clause-ascending
returns-in-Negative-clause-ascending g c =
    let input = g.B.Basis.input c.args.basis.now in
    let last = g.B.Basis.last c.args.basis.now in
    let net = c.args.net.now in
    let edge = c.args.edge.now in
    refused_ascends net c.args.graph edge.target c.closing.result.now
    c.told-reached.result.closers.now c.refused_into.result.now
    (subst (λ l. TellsClosing net c.args.graph edge.target l) (sym c.closing.ensures)
    (opened_negative input net c.args.parts.now c.requires.parts last c.args.graph edge
    c.requires.opens c.in-Negative.is)) c.refused_into.ensures

pub returns-in_default : goal.returns-in_default
returns-in_default g c =
    let input = g.B.Basis.input c.args.basis.now in
    let last = g.B.Basis.last c.args.basis.now in
    let net = c.args.net.now in
    let parts = c.args.parts.now in
    let are = c.requires.parts in
    let edge = c.args.edge.now in
    let told = c.told-reached.ensures in
    let answer = chart_answer input net parts are last c.args.self.now c.requires.chart
    c.args.graph edge.target c.args.at
    (opened_part input net parts are last c.args.graph edge c.requires.opens) c.requires.inside
    told.0 told.1 c.told-reached.result.ends.now c.told-reached.result.closers.now told.2 in
    record {
      exact = tells_positive input net parts are last c.requires.chart.ahead c.args.graph
          edge.target c.args.at edge.label
          (opened_positive input net parts are last c.args.graph edge c.requires.opens
          c.in_default.not-Negative) c.told-reached.result.ends.now
          c.told-reached.result.closers.now answer;
      ascending = answer.closers_ascend;
    }
