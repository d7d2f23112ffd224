use Rattle.std.proofs.Common.{List, ℕ, subst}
use Rattle.ux_image_look_ups.specs.Steps.{EndsBy}
use Rattle.ux_image_look_ups.proofs.PlaceLemmas.{ends-both}
use Rattle.ux_image_look_ups.proofs.places.Place.code.Goals as goal

pub returns-in-None : goal.returns-in-None
returns-in-None c =
    let states = c.args.states.now in
    ends-both states c.self.inside.first c.as_slice.result.now c.self.inside.others.items
    c.args.self.now c.first_code-in-None.result c.as_slice.ensures c.self.view_is
    (subst (EndsBy states c.as_slice.result.now) c.in-None.is c.first_code.ensures)
    (subst (λ (l : List ℕ). EndsBy states l c.first_code-in-None.result) c.deref.ensures.value
    c.first_code-in-None.ensures)
