use Rattle.std.proofs.Common.{◌↔◌, List, subst, sym}
use Rattle.std.specs.Prelude.{IsTrue}
use Rattle.std.specs.Str.{chars}
use Rattle.ux_dawg.specs.Paths.{MakeAutomaton}
use Rattle.ux_dawg.specs.declared.state.State.{State}
use Rattle.ux_image_lists.specs.Sizes.{forms_of}
use Rattle.ux_image_look_ups.specs.Ways.{HaveForms, MayBegin}
use Rattle.ux_image_lexicon.proofs.PlaceLemmas.{may_begin_at, states_lent}
use Rattle.ux_image_lexicon.proofs.reached.ImageReached.may_go_on.Goals as goal

pub may_go_on-requires-clause-automaton : goal.may_go_on-requires-clause-automaton
may_go_on-requires-clause-automaton c =
    subst MakeAutomaton (sym c.states.ensures.value) c.states.ensures.is.automaton

pub may_go_on-requires-clause-forms : goal.may_go_on-requires-clause-forms
may_go_on-requires-clause-forms c =
    subst HaveForms (sym c.states.ensures.value) c.states.ensures.is.forms

pub returns : goal.returns
returns c alphabet content text leads =
    let place = c.args.self.now in
    let some = subst (λ (l : List State). IsTrue c.may_go_on.result
    ↔ MayBegin alphabet (chars text) (forms_of l)) c.states.ensures.value
    (c.may_go_on.ensures alphabet (chars text) (states_lent alphabet (chars text) place
    c.states.result.now c.states.ensures.value leads.states)) in
    let begins = may_begin_at alphabet content text place c.states.ensures.is leads in
    (λ t. begins.0 (some.0 t), λ may. some.1 (begins.1 may))
