-- The chart of a net over a text. Public: its contracts speak of it.
use Rattle.std.specs.Prelude.{length}
use Rattle.ux_mask_table.specs.MaskedTexts.{HasTable}
use Rattle.ux_parts.specs.Parts.{ArePartsOf}
use Rattle.ux_parts.specs.declared.parts.Parts.{Parts}
use Rattle.ux_chart.specs.Rows.{IsChart}
use Rattle.ux_walk.specs.Settings.{Setting, masked_setting}
use Rattle.ux_text_chart.specs.declared.text_chart.TextChart.{TextChart}
use Rattle.ux_text_chart.specs.Leading.{input_of}

-- what a chart is made for
abbrev pub chart_setting : TextChart → Setting
chart_setting chart = masked_setting chart.basis.text.now

-- the parts of its net
abbrev pub parts_of : TextChart → Parts
parts_of chart = chart.basis.tables.now.prepared.parts

-- the chart is that of its setting
pub record IsTextChart (chart : TextChart) : Type 0 where
  pub table : HasTable chart.basis.text.now
  pub parts : ArePartsOf (chart_setting chart).net (parts_of chart)
  pub filled : IsChart (input_of (chart_setting chart)) (chart_setting chart).net (parts_of chart)
      (length (chart_setting chart).tokens) chart.chart
