use Rattle.std.proofs.Common.{◌≤◌, subst}
use Rattle.ux_chart.proofs.ClosingStateLemmas.{no_marks, marks_more, marks_all}
use Rattle.ux_chart.proofs.closing_states.marks_of.Goals as goal

pub loop-state-init : goal.loop-state-init
loop-state-init c = no_marks c.args.net.now c.args.graph c.new-marks.result.items
    c.new-marks.ensures.items

pub loop-state-preserved : goal.loop-state-preserved
loop-state-preserved c =
    marks_more c.args.net.now c.args.graph c.loop-state.state c.loop-state.marks.items
    c.push.new.self.items c.some_closes.result c.edges.result.now c.in_ok-push.ensures.items
    c.edges.ensures c.some_closes.ensures c.loop-state.invariant

pub returns : goal.returns
returns c =
    marks_all c.args.net.now c.args.graph c.loop-state.state c.loop-state.marks.items
    (subst (λ n. n ≤ c.loop-state.state) c.states-state-end.ensures.count c.loop-state-test.false)
    c.loop-state.invariant
