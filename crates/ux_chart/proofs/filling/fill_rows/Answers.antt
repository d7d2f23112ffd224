use Rattle.std.proofs.Common.{arith, ◌≡◌, ◌+◌, ◌-◌, ◌∙◌, length, ap, refl}
use Rattle.ux_chart.proofs.FillingLemmas.{rows_more}
use Rattle.ux_chart.proofs.filling.fill_rows.Goals as goal

pub rows-preserved : goal.rows-preserved
rows-preserved g c =
    let at = c.rows.chart.last - c.len-done.result in
    let rows = ap length c.next_row.ensures.rows in
    let same = c.next_row.ensures.same in
    let test = c.rows-test.true in
    let tested = c.len.ensures in
    let done = c.len-done.ensures in
    let long = c.rows.chart.rows.ok.0 in
    let count : length c.next_row.new.chart.rows.items + at ≡ c.next_row.new.chart.last =
    omega (arith, rows, same, test, tested, done, long) in
    record {
      last = same ∙ c.rows.invariant.last;
      begun = rows_more (g.B.Basis.input c.args.basis.now) c.args.net.now c.args.parts.now
          c.next_row.new.chart _ at c.in_ok-row.row count refl refl c.in_ok-push.ensures.items
          c.in_ok-row.ensures.row c.in_ok-row.ensures.begun;
    }
