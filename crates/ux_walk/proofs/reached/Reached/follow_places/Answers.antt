use Rattle.std.proofs.Common.{[], get_or}
use Rattle.ux_walk.specs.Courses.{IsOverAt}
use Rattle.ux_walk.proofs.Keeping.{keeps, spells_kept}
use Rattle.ux_walk.proofs.Stepping.{adds_first, adds_next, adds_all, item_at}
use Rattle.ux_walk.proofs.reached.Reached.follow_places.Goals as goal

pub loop-place-init : goal.loop-place-init
loop-place-init g c = λ v before sound spells.
    let masked = c.args.masked.now in
    adds_first v (IsOverAt masked.alphabet.now masked.text.now masked.applied.now
    (g.C.Contexts.applies c.args.contexts.now) c.args.config.here []
    c.args.config.at before c.args.edges.now) c.args.self.now c.args.places.now sound

pub loop-place-preserved : goal.loop-place-preserved
loop-place-preserved g c = λ v before sound spells.
    let masked = c.args.masked.now in
    let now = c.loop-place.invariant v before sound spells in
    adds_next v (IsOverAt masked.alphabet.now masked.text.now masked.applied.now
    (g.C.Contexts.applies c.args.contexts.now) c.args.config.here []
    c.args.config.at before c.args.edges.now) c.args.self.now c.loop-place.self
    c.follow_place.new.self c.args.places.now
    c.loop-place.place-index (get_or c.args.places.now c.loop-place.place-index 0)
    c.loop-place-test.true
    (item_at c.args.places.now c.loop-place.place-index 0 c.loop-place-test.true) now
    (c.in_ok-follow_place.ensures v before now.sound
    (spells_kept c.args.self.now c.loop-place.self (keeps now) c.args.config v before spells))

pub returns : goal.returns
returns g c = λ v before sound spells.
    let masked = c.args.masked.now in
    adds_all v (IsOverAt masked.alphabet.now masked.text.now masked.applied.now
    (g.C.Contexts.applies c.args.contexts.now) c.args.config.here []
    c.args.config.at before c.args.edges.now) c.args.self.now c.loop-place.self c.args.places.now
    c.loop-place.place-index c.loop-place-test.false
    (c.loop-place.invariant v before sound spells)
