use Rattle.std.proofs.Common.{◌+◌, ◌∙◌, ap, get_or, length, refl, subst, sym}
use Rattle.ux_chart.specs.declared.table.Stretch.{Stretch}
use Rattle.ux_chart.specs.Tables.{stretch_of}
use Rattle.ux_chart.proofs.FillingLemmas.{IsBegun, begins, turn, turn_over, row_over}
use Rattle.ux_chart.specs.Rows.{IsFilled, IsWholeRow, begun_at}
use Rattle.ux_chart.proofs.filling.fill_listed.Goals as goal

pub loop-number-init : goal.loop-number-init
loop-number-init g c =
    let input = g.B.Basis.input c.args.basis.now in
    let listed = c.args.listed.now in
    record {
      last = refl;
      rows = refl;
      begun = subst
          (λ n. IsBegun input c.args.net.now c.args.parts.now c.args.chart.now c.args.at n 0
          listed) (sym (c.len-from.ensures ∙ c.args.chart.now.table.answers.ok.0))
          (begins input c.args.net.now c.args.parts.now c.args.chart.now c.args.at listed
          c.requires.begun c.requires.count);
    }

pub fill_part-requires-clause-filled : goal.fill_part-requires-clause-filled
fill_part-requires-clause-filled g c =
    let listed = c.args.listed.now in
    let chart = c.loop-number.chart in
    turn (g.B.Basis.input c.args.basis.now) c.args.net.now c.args.parts.now c.args.at listed
    c.requires.likely chart c.len-from.result c.loop-number.number-index
    (get_or listed c.loop-number.number-index 0) c.in_ok-row.row c.loop-number-test.true refl
    (c.in_ok-row.ensures ∙ ap (λ n. stretch_of c.len-from.result n)
    (c.len.ensures ∙ chart.table.answers.ok.0)) c.loop-number.invariant.begun

pub loop-number-preserved : goal.loop-number-preserved
loop-number-preserved g c =
    let listed = c.args.listed.now in
    let n = c.loop-number.number-index in
    record {
      last = c.fill_part.ensures.same ∙ c.loop-number.invariant.last;
      rows = c.fill_part.ensures.rows ∙ c.loop-number.invariant.rows;
      begun = turn_over (g.B.Basis.input c.args.basis.now) c.args.net.now c.args.parts.now
          c.args.at listed c.requires.likely c.loop-number.chart c.fill_part.new.chart
          c.len-from.result n (get_or listed n 0) c.loop-number-test.true refl
          c.loop-number.invariant.begun
          (subst (λ from. IsFilled (g.B.Basis.input c.args.basis.now) c.args.net.now
          c.args.parts.now c.fill_part.new.chart (begun_at c.args.at (get_or listed n 0 + 1) from
          (length c.fill_part.new.chart.table.answers.items)))
          (ap (λ (r : Stretch). r.from) c.in_ok-row.ensures) c.in_ok-fill_part.ensures.filled);
    }

pub returns-clause-row : goal.returns-clause-row
returns-clause-row g c =
    let input = g.B.Basis.input c.args.basis.now in
    let chart = c.loop-number.chart in
    subst (λ (r : Stretch). IsWholeRow input c.args.net.now c.args.parts.now chart.table r
    c.args.at)
    (sym (c.in_ok-row-2.ensures ∙ ap (λ n. stretch_of c.len-from.result n)
    (c.len-2.ensures ∙ chart.table.answers.ok.0)))
    (row_over input c.args.net.now c.args.parts.now c.args.at c.args.listed.now
    c.requires.likely chart c.len-from.result c.loop-number.number-index
    c.loop-number-test.false c.loop-number.invariant.begun)
