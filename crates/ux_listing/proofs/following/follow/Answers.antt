use Rattle.std.proofs.Common.{List, ℕ, subst}
use Rattle.std.specs.Prelude.{Option, Some, None}
use Rattle.ux_grf.specs.declared.item.Piece.{Piece}
use Rattle.ux_folds.specs.Folding.{Folds}
use Rattle.ux_walk.specs.Courses.{put_events}
use Rattle.ux_walk.specs.Settings.{masked_setting}
use Rattle.ux_listing.specs.Moves.{Behind, Crosses}
use Rattle.ux_listing.proofs.FollowsLemmas.{follows_none, follows_output, output_dropped}
use Rattle.ux_listing.proofs.GoingLemmas.{on_two}
use Rattle.ux_listing.proofs.MovesLemmas.{closed_makes}
use Rattle.ux_listing.proofs.following.follow.Goals as goal

pub returns-then-is_closed-clause-follows : goal.returns-then-is_closed-clause-follows
returns-then-is_closed-clause-follows g c =
    let setting = masked_setting c.args.masked.now in
    let applies = g.C.Contexts.applies c.args.contexts.now in
    let edge = c.args.edge.now in
    let config = c.args.config in
    follows_none (g.M.Marks.marked c.args.marks.now) config (g.F.Fold.next c.args.fold.now)
    (Crosses setting applies config.visit.graph edge config.at) c.args.next.now.items
    (λ move events t. closed_makes setting applies config.visit.graph edge.label edge.target config.at
    c.in_ok-matched.matched (record {
      takes = c.in_ok-matched.ensures.takes;
      stays = c.in_ok-matched.ensures.stays;
      calls = c.in_ok-matched.ensures.calls;
      opens = c.in_ok-matched.ensures.opens;
    }) (c.is_closed.ensures.0 c.if-is_closed.true) move t.0 t.1)

pub returns-in_default-clause-follows : goal.returns-in_default-clause-follows
returns-in_default-clause-follows g c =
    let edge = c.args.edge.now in
    let config = c.args.config in
    output_dropped (g.F.Fold.next c.put_out.new.fold) (g.M.Marks.marked c.args.marks.now) config
    (put_events edge.output)
    (Behind (masked_setting c.args.masked.now) (g.C.Contexts.applies c.args.contexts.now)
    config.visit.graph edge.label edge.target config.at)
    (g.met.F.Fold.one c.put_out.new.fold)
    (subst (λ (l : List Piece). Folds (g.F.Fold.next c.put_out.new.fold) (put_events l)
    (Some config.fold) None) c.as_slice.ensures
    (subst (λ (o : Option ℕ). Folds (g.F.Fold.next c.put_out.new.fold)
    (put_events c.as_slice.result.now) (Some config.fold) o) c.in_default.is
    c.in_ok-state.ensures.folds))
    c.args.next.now.items

pub returns-clause-follows : goal.returns-clause-follows
returns-clause-follows g c = on_two c.go_on.result (λ grows f.
    let edge = c.args.edge.now in
    let config = c.args.config in
    let setting = masked_setting c.args.masked.now in
    follows_output (g.F.Fold.next c.put_out.new.fold) (g.M.Marks.marked c.args.marks.now) config
    (put_events edge.output)
    (Behind setting (g.C.Contexts.applies c.args.contexts.now)
    config.visit.graph edge.label edge.target config.at)
    (g.F.Fold.next c.go_on.new.fold) grows.next c.in-Some.state
    (subst (λ (l : List Piece). Folds (g.F.Fold.next c.put_out.new.fold) (put_events l)
    (Some config.fold) (Some c.in-Some.state)) c.as_slice.ensures
    (subst (λ (o : Option ℕ). Folds (g.F.Fold.next c.put_out.new.fold)
    (put_events c.as_slice.result.now) (Some config.fold) o) c.in-Some.is
    c.in_ok-state.ensures.folds))
    c.args.next.now.items c.go_on.new.next.items (f setting (record {
      takes = c.in_ok-matched.ensures.takes;
      stays = c.in_ok-matched.ensures.stays;
      calls = c.in_ok-matched.ensures.calls;
      opens = c.in_ok-matched.ensures.opens;
    }))) c.go_on.ensures.grows c.go_on.ensures.follows
