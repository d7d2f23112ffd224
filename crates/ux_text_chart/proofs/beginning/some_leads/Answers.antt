use Rattle.std.proofs.Common.{sym}
use Rattle.ux_text_chart.specs.Leading.{input_of}
use Rattle.ux_walk.specs.Settings.{masked_setting}
use Rattle.ux_text_chart.proofs.LikelyLemmas.{none_more, none_leads}
use Rattle.ux_text_chart.proofs.beginning.some_leads.Goals as goal

pub leads-requires-clause-known : goal.leads-requires-clause-known
leads-requires-clause-known c =
    c.requires.known c.edge-item.result
    (c.loop-edge.edge-index, c.loop-edge-test.true, sym c.edge-item.is)

pub loop-edge-preserved : goal.loop-edge-preserved
loop-edge-preserved c =
    none_more (input_of (masked_setting c.args.text.now)) c.args.parts.now
    c.args.row.now c.args.edges.now c.args.at
    c.loop-edge.edge-index c.edge-item.result c.leads.result c.loop-edge-test.true
    c.edge-item.is c.leads.ensures c.if-leads.false c.loop-edge.invariant

pub returns : goal.returns
returns c = (
  λ t. cc,
  λ some. absurd (none_leads (input_of (masked_setting c.args.text.now)) c.args.parts.now
      c.args.row.now c.args.edges.now c.args.at
      c.loop-edge.edge-index c.loop-edge-test.false c.loop-edge.invariant some),
)
