use Rattle.ux_tfst_locate.specs.Bases.{input_of}
use Rattle.ux_text_chart.proofs.LikelyLemmas.{none_more, none_leads}
use Rattle.ux_tfst_locate.proofs.beginning.some_leads.Goals as goal

pub loop-edge-preserved : goal.loop-edge-preserved
loop-edge-preserved c =
    none_more (input_of c.args.basis.now) c.args.parts.now
    c.args.row.now c.args.edges.now c.args.at
    c.loop-edge.edge-index c.edge-item.result c.leads.result c.loop-edge-test.true
    c.edge-item.is c.leads.ensures c.if-leads.false c.loop-edge.invariant

pub returns : goal.returns
returns c = (
  λ t. cc,
  λ some. absurd (none_leads (input_of c.args.basis.now) c.args.parts.now
      c.args.row.now c.args.edges.now c.args.at
      c.loop-edge.edge-index c.loop-edge-test.false c.loop-edge.invariant some),
)
