use Rattle.ux_image_look_ups.proofs.PathLemmas.{leads_some}
use Rattle.ux_image_look_ups.proofs.places.may_go_on.Goals as goal

pub returns : goal.returns
returns c alphabet text leads =
    let some = leads_some c.args.states.now c.requires.automaton c.requires.forms alphabet text
    c.args.place.now leads in
    (λ t. some.0 (c.has_state.ensures.0 t), λ may. c.has_state.ensures.1 (some.1 may))
