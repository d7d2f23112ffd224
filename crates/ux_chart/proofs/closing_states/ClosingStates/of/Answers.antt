use Rattle.std.proofs.Common.{◌≤◌, ◌+◌, List, Bool, sym, subst}
use Rattle.ux_chart.specs.ClosingStates.{AreMarks}
use Rattle.ux_chart.proofs.ClosingStateLemmas.{no_rows, rows_more, rows_all}
use Rattle.ux_chart.proofs.closing_states.ClosingStates.of.Goals as goal

pub loop-before-init : goal.loop-before-init
loop-before-init c = no_rows c.args.net.now c.new-rows.result.items c.new-rows.ensures.items

pub loop-before-preserved : goal.loop-before-preserved
loop-before-preserved c =
    rows_more c.args.net.now c.loop-before.before c.loop-before.rows.items c.push.new.self.items
    c.new.result c.in_ok-push.ensures.items
    (subst (λ (marks : List Bool). AreMarks c.args.net.now (c.loop-before.before + 1) marks)
    (sym c.new.ensures) c.in_ok-marks.ensures) c.loop-before.invariant

pub returns : goal.returns
returns c =
    rows_all c.args.net.now c.loop-before.before c.loop-before.rows.items
    (subst (λ n. n ≤ c.loop-before.before) c.graphs-before-end.ensures.count
    c.loop-before-test.false) c.loop-before.invariant
