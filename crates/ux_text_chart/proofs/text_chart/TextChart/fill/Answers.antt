use Rattle.std.proofs.Common.{List, ap, sym, subst, length}
use Rattle.ux_mask_table.specs.MaskedTexts.{HasTable, IsKnown}
use Rattle.ux_mask_table.specs.declared.masked_text.MaskedText.{MaskedText}
use Rattle.ux_net.specs.declared.net_graph.NetGraph.{NetGraph}
use Rattle.ux_parts.specs.declared.parts.Parts.{Parts}
use Rattle.ux_chart.specs.Likely.{AreKnown}
use Rattle.ux_chart.specs.Rows.{IsChart}
use Rattle.ux_text_chart.specs.Leading.{input_of}
use Rattle.ux_walk.specs.Settings.{masked_setting}
use Rattle.ux_text_chart.proofs.text_chart.TextChart.fill.Goals as goal

pub fill-requires-clause-prepared : goal.fill-requires-clause-prepared
fill-requires-clause-prepared c = c.requires.tables.by.prepared

pub fill-requires-clause-ahead : goal.fill-requires-clause-ahead
fill-requires-clause-ahead c = c.of-basis.ensures.serves.ahead

pub fill-requires-clause-serves : goal.fill-requires-clause-serves
fill-requires-clause-serves c = c.of-basis.ensures.serves

pub fill-requires-clause-known : goal.fill-requires-clause-known
fill-requires-clause-known c =
    let serves = c.of-basis.ensures.serves in
    subst (λ (net : List NetGraph). AreKnown (IsKnown c.of-basis.result.text.now) net)
    serves.net_is serves.known

pub returns-clause-setting : goal.returns-clause-setting
returns-clause-setting c =
    ap (λ (text : MaskedText). masked_setting text) c.of-basis.ensures.text

pub returns-clause-chart : goal.returns-clause-chart
returns-clause-chart c =
    let text = c.of-basis.result.text.now in
    let serves = c.of-basis.ensures.serves in
    let chart = c.in_ok-chart.chart in
    record {
      table = subst (λ (t : MaskedText). HasTable t) (sym c.of-basis.ensures.text) c.requires.table;
      parts = serves.tables_are.by.prepared.parts;
      filled = subst (λ (net : List NetGraph). IsChart (input_of (masked_setting text)) net
          c.of-basis.result.tables.now.prepared.parts (length text.text.now) chart) (sym serves.net_is)
          (subst (λ (parts : Parts). IsChart (input_of (masked_setting text)) c.args.masked.now.net.now
          parts (length text.text.now) chart) (sym serves.parts_are) c.in_ok-chart.ensures);
    }
