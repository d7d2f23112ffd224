use Rattle.std.proofs.Common.{List, subst, sym}
use Rattle.std.specs.Str.{chars}
use Rattle.ux_dawg.specs.declared.state.Form.{Form}
use Rattle.ux_dict.specs.Forms.{IsChosen}
use Rattle.ux_image_lists.specs.Sizes.{forms_of}
use Rattle.ux_image_look_ups.specs.Steps.{EndsBy}
use Rattle.ux_image_look_ups.specs.Ways.{FitsText}
use Rattle.ux_image_look_ups.proofs.FoundLemmas.{ends_nowhere}
use Rattle.ux_image_look_ups.proofs.ends.ending.Goals as goal

pub returns-in-None : goal.returns-in-None
returns-in-None c leads =
    let states = c.args.states.now in
    let alphabet = c.args.alphabet.now in
    let text = chars c.args.text.now in
    subst (λ (l : List Form). IsChosen (FitsText alphabet text) (forms_of states) l)
    (sym c.new.ensures.items)
    (ends_nowhere states alphabet c.requires.automaton text c.args.place.now leads
    (subst (EndsBy states c.args.place.now) c.in-None.is c.code.ensures))
