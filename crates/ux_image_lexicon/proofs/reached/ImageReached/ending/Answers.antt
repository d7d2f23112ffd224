use Rattle.std.proofs.Common.{List, subst, sym, ap, ◌∙◌}
use Rattle.std.specs.Str.{chars}
use Rattle.std.proofs.lemmas.Result.{IfOk-weaker}
use Rattle.ux_dawg.specs.Paths.{MakeAutomaton}
use Rattle.ux_dawg.specs.declared.state.State.{State}
use Rattle.ux_dela.specs.declared.entry.Entry.{Entry}
use Rattle.ux_dict.specs.Content.{AreDifferent}
use Rattle.ux_dict.specs.Forms.{IsChosen}
use Rattle.ux_image_lists.specs.Sizes.{forms_of}
use Rattle.ux_image_look_ups.specs.Ways.{FitsText, HaveForms}
use Rattle.ux_image_lexicon.specs.Told.{entries_told}
use Rattle.ux_image_lexicon.specs.declared.codes.ReadList.{ReadList}
use Rattle.ux_image_lexicon.proofs.PlaceLemmas.{fitting_at, sound_at, states_lent}
use Rattle.ux_image_lexicon.proofs.reached.ImageReached.ending.Goals as goal

pub ending-requires-clause-automaton : goal.ending-requires-clause-automaton
ending-requires-clause-automaton c =
    subst MakeAutomaton (sym c.states-states.ensures.value) c.states-states.ensures.is.automaton

pub ending-requires-clause-forms : goal.ending-requires-clause-forms
ending-requires-clause-forms c =
    subst HaveForms (sym c.states-states.ensures.value) c.states-states.ensures.is.forms

pub returns-clause-found : goal.returns-clause-found
returns-clause-found c =
    let place = c.args.self.now in
    let alphabet = c.args.alphabet.now in
    let text = c.args.text.now in
    let some = c.in_ok-forms.forms.items in
    let entries = c.in_ok-entries.ensures
    ∙ ap (λ (l : List ReadList). entries_told l c.deref.result.now) c.lists.ensures
    ∙ ap (entries_told place.coded.now.lists) c.deref.ensures.value in
    IfOk-weaker c.each_once.result _ _ (λ found different content leads.
    fitting_at alphabet content text place c.states-states.ensures.is leads some found.items
    (subst (λ (l : List State). IsChosen (FitsText alphabet (chars text)) (forms_of l) some)
    c.states-states.ensures.value (c.in_ok-forms.ensures
    (states_lent alphabet (chars text) place c.states-states.result.now c.states-states.ensures.value leads.states)))
    (subst (λ (l : List Entry). AreDifferent l found.items) entries different)) c.each_once.ensures

pub returns-clause-sound : goal.returns-clause-sound
returns-clause-sound c =
    let place = c.args.self.now in
    IfOk-weaker c.each_once.result _ _ (λ found fits content leads.
    sound_at c.args.alphabet.now content c.args.text.now place c.states-states.ensures.is leads found.items
    (fits content leads)) (returns-clause-found c)
