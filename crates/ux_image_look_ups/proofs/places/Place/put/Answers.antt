use Rattle.std.proofs.Common.{ap, sym, ◌∙◌}
use Rattle.ux_image_look_ups.specs.Places.{numbers_in}
use Rattle.ux_image_look_ups.proofs.PlaceLemmas.{put-first, put-other}
use Rattle.ux_image_look_ups.proofs.places.Place.put.Goals as goal

pub returns-in-None : goal.returns-in-None
returns-in-None c =
    let others = c.self.inside.others.items in
    put-first c.args.self.now others c.args.state
    (ap (λ o. numbers_in o others) (sym c.in-None.is) ∙ c.self.view_is)

pub returns-in_ok-push-in-Some : goal.returns-in_ok-push-in-Some
returns-in_ok-push-in-Some c =
    put-other c.self.inside.first c.args.self.now c.self.inside.others.items c.push.new.self.items
    c.args.state c.self.view_is c.in_ok-push-in-Some.ensures.items
