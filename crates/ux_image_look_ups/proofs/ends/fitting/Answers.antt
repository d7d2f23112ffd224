use Rattle.std.proofs.Common.{◌∷◌, ◌++◌, [], List, ℕ, subst, sym, ap, ◌∙◌}
use Rattle.std.specs.Prelude.{All}
use Rattle.std.specs.Str.{chars}
use Rattle.ux_alphabet.specs.Letters.{FitsAlone}
use Rattle.ux_dawg.specs.Forms.{form_of}
use Rattle.ux_dawg.specs.declared.state.Form.{Form}
use Rattle.ux_dict.specs.Forms.{IsChosen}
use Rattle.ux_image_lists.specs.Sizes.{forms_of}
use Rattle.ux_image_look_ups.specs.Ways.{FitsText}
use Rattle.ux_image_look_ups.proofs.FoundLemmas.{ends_alone}
use Rattle.ux_image_look_ups.proofs.ends.fitting.Goals as goal

pub returns : goal.returns
returns c leads =
    let states = c.args.states.now in
    let alphabet = c.args.alphabet.now in
    let text = chars c.args.text.now in
    let letters = c.deref.ensures.value ∙ c.in_ok-letters.ensures in
    let alone = subst (λ (l : List ℕ). All (FitsAlone alphabet) l) letters
    (c.fit_alone.ensures c.if-not-fit_alone.false) in
    subst (λ (l : List Form). IsChosen (FitsText alphabet text) (forms_of states) l)
    (sym (c.in_ok-push.ensures.items
    ∙ ap (λ (l : List Form). l ++ form_of c.new.result c.args.code ∷ []) c.new-found.ensures.items
    ∙ ap (λ (l : List ℕ). form_of l c.args.code ∷ []) (c.new.ensures ∙ c.in_ok-letters.ensures)))
    (ends_alone states alphabet c.requires.automaton text c.args.place.now c.args.code leads
    c.requires.code alone)
