use Rattle.ux_marks.proofs.MeetingLemmas.{adds_all, adds_next, adds_none}
use Rattle.ux_marks.proofs.rules.push_from.Goals as goal

pub loop-edge-init : goal.loop-edge-init
loop-edge-init c = adds_none c.args.count c.args.state c.args.rules.now.items

pub loop-edge-preserved : goal.loop-edge-preserved
loop-edge-preserved c =
    adds_next c.args.count c.args.state c.args.edges.now c.loop-edge.edge-index c.edge-item.result
    c.args.rules.now.items c.loop-edge.rules.items c.push_inside.new.rules.items
    c.loop-edge-test.true c.edge-item.is c.loop-edge.invariant c.in_ok-push_inside.ensures

pub returns : goal.returns
returns c =
    adds_all c.args.count c.args.state c.args.edges.now c.loop-edge.edge-index c.args.rules.now.items
    c.loop-edge.rules.items c.loop-edge-test.false c.loop-edge.invariant
