use Rattle.std.proofs.Common.{[], List, reverse, subst}
use Rattle.ux_grf.specs.declared.item.Piece.{Piece}
use Rattle.ux_outputs.specs.declared.event.Event.{Event}
use Rattle.ux_walk.specs.declared.config.Frame.{Frame}
use Rattle.ux_walk.specs.Configurations.{Notes}
use Rattle.ux_walk.specs.Courses.{IsBehind, at_state, put_events}
use Rattle.ux_walk.proofs.Results.{on_ok}
use Rattle.ux_walk.proofs.Adding.{adds_noted, nothing_of}
use Rattle.ux_walk.proofs.Stepping.{behind_closed}
use Rattle.ux_walk.proofs.reached.Reached.follow.Goals as goal

pub go_on-requires : goal.go_on-requires
go_on-requires g c = record {
  asked = λ opens. c.requires.asked (c.in_ok-matched.ensures.opens.0 opens);
}

pub returns : goal.returns
returns g c = on_ok c.go_on.result _ _ (λ adds.
    let alphabet = c.args.masked.now.alphabet.now in
    let tokens = c.args.masked.now.text.now in
    let tables = c.args.masked.now.applied.now in
    let applies = g.C.Contexts.applies c.args.contexts.now in
    let edge = c.args.edge.now in
    let config = c.args.config in
    let here : Frame = at_state config.here edge.target in
    adds_noted (λ (before : List Event).
    IsBehind alphabet tokens tables applies edge.label here [] config.at before)
    c.args.self.now c.put_out.new.self c.go_on.new.self config config.here config.at
    (reverse (put_events edge.output)) c.in_ok-events.events
    (subst (λ (l : List Piece). Notes c.args.self.now c.put_out.new.self (reverse (put_events l))
    config.events c.in_ok-events.events) c.as_slice.ensures c.in_ok-events.ensures)
    (adds alphabet tokens tables (record {
      takes = c.in_ok-matched.ensures.takes;
      stays = c.in_ok-matched.ensures.stays;
      calls = c.in_ok-matched.ensures.calls;
      opens = c.in_ok-matched.ensures.opens;
    }))) c.go_on.ensures

pub returns-then-is_closed : goal.returns-then-is_closed
returns-then-is_closed g c = λ v before sound spells.
    let masked = c.args.masked.now in
    nothing_of v _ c.args.self.now sound (λ w.
    behind_closed masked.alphabet.now masked.text.now masked.applied.now
    (g.C.Contexts.applies c.args.contexts.now) c.args.edge.now.label _ c.args.config.at _
    c.in_ok-matched.matched (record {
      takes = c.in_ok-matched.ensures.takes;
      stays = c.in_ok-matched.ensures.stays;
      calls = c.in_ok-matched.ensures.calls;
      opens = c.in_ok-matched.ensures.opens;
    }) w (c.is_closed.ensures.0 c.if-is_closed.true))
