use Rattle.std.proofs.Common.{List, ◌+◌, get_or, subst, sym}
use Rattle.ux_dawg.specs.declared.state.Edge.{Edge}
use Rattle.ux_image_reader.specs.Visit.{edges_at}
use Rattle.ux_image_reader.specs.Visiting.{edges_left, GoesTo}
use Rattle.ux_image_reader.specs.declared.visit.Frame.{Frame}
use Rattle.ux_image_reader.proofs.VisitLemmas.{found_left, goes_to, left_behind-known, none_new}
use Rattle.ux_image_reader.proofs.visit.next_edge.Goals as goal

pub returns-in_err-skipped : goal.returns-in_err-skipped
returns-in_err-skipped c =
    let rest = edges_left c.args.states.now c.args.frame in
    let none = found_left c.args.left c.args.frame.place c.edges_at-edges.result.now
    (edges_at c.args.states.now c.args.frame.state) _ c.edges_at-edges.ensures
    c.in_err-skipped.ensures in
    rw c.from_residual.ensures
    (left_behind-known c.args.states.now c.args.left rest (none_new c.args.left rest none))

pub returns : goal.returns
returns c =
    let states = c.args.states.now in
    let frame = c.args.frame in
    let place = frame.place + c.in_ok-skipped.skipped in
    let none : Edge = record { letter = 0; target = 0 } in
    let past : Frame = record { state = frame.state; place = place + 1 } in
    let all = edges_at states frame.state in
    let found = found_left c.args.left frame.place c.edges_at-edges.result.now all _
    c.edges_at-edges.ensures c.in_ok-skipped.ensures in
    subst (λ (l : List Edge). GoesTo states c.args.left frame past
    (record { state = (get_or l place none).target; place = 0 })) (sym c.edges_at-edges.ensures)
    (goes_to states c.requires.states c.args.left frame c.in_ok-skipped.skipped none
    c.requires.frame found)
