use Rattle.std.specs.Prelude.{◌+◌, Bool, List, ◌∷◌, Some, None, drop, refl, if◌then◌else◌}
use Rattle.std.proofs.Common.{◌∙◌, ap, subst}
use Rattle.ux_outputs.specs.declared.event.Event.{Event}
use Rattle.ux_outputs.specs.Rendering.{render}
use Rattle.ux_outputs.specs.Kept.{state_of}
use Rattle.ux_outputs.proofs.FollowingLemmas.{FollowWithin-first}
use Rattle.ux_outputs.proofs.RenderLemmas.{IsRendered, IsRendered-next, IsRendered-start, drop-item}
use Rattle.ux_outputs.proofs.rendered.render.Goals as goal
use Rattle.ux_outputs.proofs.rendered.render.Goals.{In-loop-event}

pub loop-event-init : goal.loop-event-init
loop-event-init c =
    IsRendered-start c.args.text.now c.args.mode c.args.novar
    (render c.args.text.now c.args.mode c.args.novar c.args.start c.args.events.now) c.args.start
    c.args.events.now c.new-rendering.result c.requires.follow
    (c.new-rendering.ensures.kept c.args.text.now)
    (c.new-rendering.ensures.state c.args.mode c.args.text.now) refl

pub follow-requires-clause-follow : goal.follow-requires-clause-follow
follow-requires-clause-follow c =
    let later = drop (c.loop-event.event-index + 1) c.args.events.now in
    let item = drop-item c.args.events.now c.loop-event.event-index c.event-item.result
    c.loop-event-test.true c.event-item.is in
    let here : IsRendered c.args.text.now c.args.mode c.args.novar
    (render c.args.text.now c.args.mode c.args.novar c.args.start c.args.events.now)
    c.loop-event.rendering (c.event-item.result ∷ later) =
    subst (λ (rest : List Event). IsRendered c.args.text.now c.args.mode c.args.novar
    (render c.args.text.now c.args.mode c.args.novar c.args.start c.args.events.now)
    c.loop-event.rendering rest) item c.loop-event.invariant in
    FollowWithin-first c.args.text.now c.loop-event.rendering.position c.event-item.result later
    here.follow

pub loop-event-preserved : goal.loop-event-preserved
loop-event-preserved c =
    let later = drop (c.loop-event.event-index + 1) c.args.events.now in
    let item = drop-item c.args.events.now c.loop-event.event-index c.event-item.result
    c.loop-event-test.true c.event-item.is in
    let here : IsRendered c.args.text.now c.args.mode c.args.novar
    (render c.args.text.now c.args.mode c.args.novar c.args.start c.args.events.now)
    c.loop-event.rendering (c.event-item.result ∷ later) =
    subst (λ (rest : List Event). IsRendered c.args.text.now c.args.mode c.args.novar
    (render c.args.text.now c.args.mode c.args.novar c.args.start c.args.events.now)
    c.loop-event.rendering rest) item c.loop-event.invariant in
    IsRendered-next c.args.text.now c.args.mode c.args.novar
    (render c.args.text.now c.args.mode c.args.novar c.args.start c.args.events.now)
    c.loop-event.rendering c.event-item.result later here c.follow.new.self
    c.in_ok-follow.ensures.kept
    (c.in_ok-follow.ensures.state
    ∙ ap (λ (b : Bool). if b
    then Some (state_of c.args.mode c.args.text.now c.follow.new.self) else None)
    c.if-not-branch.false)
