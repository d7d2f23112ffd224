use Rattle.std.proofs.lemmas.Result.{on_ok_weaker}
use Rattle.ux_marks.proofs.MeetingLemmas.{adds_to}
use Rattle.ux_marks.proofs.rules.push_inside.Goals as goal

pub returns : goal.returns
returns c =
    on_ok_weaker c.push_along.result
    (adds_to c.args.count c.args.state c.args.edge.now c.args.rules.now.items
    c.push_along.new.rules.items c.if-count-edge.false) c.push_along.ensures
