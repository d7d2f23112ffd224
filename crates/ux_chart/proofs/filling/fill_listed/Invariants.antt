use Rattle.std.proofs.Common.{◌≡◌}
use Rattle.ux_chart.proofs.FillingLemmas.{IsBegun}
use Rattle.ux_chart.proofs.filling.fill_listed.Given as goal

abbrev pub invariant-loop-number : goal.invariant-loop-number
invariant-loop-number g l = record {
  last : l.chart.last ≡ l.fn.chart.last;
  rows : l.chart.rows.items ≡ l.fn.chart.rows.items;
  begun : IsBegun (g.B.Basis.input l.basis) l.net l.parts l.chart l.at l.from l.number-index
      l.listed;
}
