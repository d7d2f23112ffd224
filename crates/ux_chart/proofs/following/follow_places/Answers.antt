use Rattle.std.proofs.Common.{get_or, sym}
use Rattle.std.proofs.lemmas.List.{get_or_default}
use Rattle.ux_chart.specs.declared.config.Config.{Config}
use Rattle.ux_chart.specs.Places.{FollowsAt}
use Rattle.ux_chart.proofs.Collecting.{collected_each, collected_more, collected_none}
use Rattle.ux_chart.proofs.following.follow_places.Goals as goal

pub loop-place-init : goal.loop-place-init
loop-place-init g c = collected_none _ _ c.args.found.now.items c.args.places.now

pub loop-place-preserved : goal.loop-place-preserved
loop-place-preserved g c =
    let places = c.args.places.now in
    let i = c.loop-place.place-index in
    let place = get_or places i 0 in
    let is = get_or_default places i 0 place c.loop-place-test.true in
    collected_more _ _ c.args.found.now.items c.loop-place.found.items
    c.follow_place.new.found.items places i place
    (λ (w : Config). FollowsAt (g.B.Basis.input c.args.basis.now) c.args.net.now
    c.args.parts.now.levels c.args.graph c.args.from c.args.edges.now place w)
    c.loop-place-test.true is
    (λ w follows. (place, (i, c.loop-place-test.true, sym is), follows))
    c.loop-place.invariant (λ w. (λ h. h, λ h. h)) c.in_ok-follow_place.ensures

pub returns : goal.returns
returns g c = collected_each _ _ c.args.found.now.items c.loop-place.found.items
    c.args.places.now c.loop-place.place-index c.loop-place-test.false (λ w some. some)
    c.loop-place.invariant
