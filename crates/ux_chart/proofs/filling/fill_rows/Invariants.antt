use Rattle.std.proofs.Common.{◌≡◌, ◌+◌, ◌-◌, length}
use Rattle.ux_chart.specs.Rows.{AreBegun}
use Rattle.ux_chart.proofs.filling.fill_rows.Given as goal

abbrev pub invariant-rows : goal.invariant-rows
invariant-rows g l = record {
  last : l.chart.last ≡ g.B.Basis.last l.basis;
  begun : AreBegun (g.B.Basis.input l.basis) l.net l.parts l.chart;
}

abbrev pub decreases-rows : goal.decreases-rows
decreases-rows g l = l.chart.last + 1 - length l.chart.rows.items
