use Rattle.std.proofs.Common.{◌∙◌, ap, get_or, sym}
use Rattle.std.proofs.lemmas.Option.{get_or_from_slice_get}
use Rattle.ux_dawg.specs.Building.{bare}
use Rattle.ux_dawg.specs.declared.state.State.{State}
use Rattle.ux_dawg.proofs.FlatLemmas.{state_stands}
use Rattle.ux_image_lexicon.proofs.finding.code_at.Goals as goal

pub returns : goal.returns
returns c n =
    let states = c.args.states.now in
    let number = c.args.number in (
      λ is. (
        get_or states number bare,
        state_stands states number c.requires,
        sym c.code.ensures ∙ is,
      ),
      λ path. c.code.ensures
          ∙ ap (λ (s : State). s.code) (get_or_from_slice_get states number path.0 bare path.1)
          ∙ path.2,
    )
