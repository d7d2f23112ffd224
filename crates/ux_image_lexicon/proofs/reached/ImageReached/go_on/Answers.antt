use Rattle.std.proofs.Common.{◌++◌, List, refl, subst}
use Rattle.std.specs.Str.{chars}
use Rattle.ux_dawg.specs.declared.state.State.{State}
use Rattle.ux_image_look_ups.specs.Ways.{LeadsBy}
use Rattle.ux_image_lexicon.proofs.PlaceLemmas.{goes_on, states_lent}
use Rattle.ux_image_lexicon.proofs.reached.ImageReached.go_on.Goals as goal

pub returns : goal.returns
returns c content front leads =
    let alphabet = c.args.alphabet.now in
    let text = c.args.text.now in
    let place = c.args.self.now in
    let next = c.in_ok-states.states in
    let states = c.in_ok-states.ensures (chars front) (states_lent alphabet (chars front) place
    c.states.result.now c.states.ensures.value leads.states) in
    goes_on alphabet content front text place (record { coded = place.coded; states = next })
    c.utf8.text refl
    (subst (λ (l : List State). LeadsBy l alphabet (chars front ++ chars text) next)
    c.states.ensures.value states) leads
