use Rattle.std.proofs.Common.{ap, sym, ◌∙◌, subst}
use Rattle.ux_image_reader.specs.Fronts.{IsMisplaced}
use Rattle.ux_image_reader.specs.Reading.{first_of, IsFirst}
use Rattle.ux_image_reader.proofs.PlacesLemmas.{first_of_three}
use Rattle.ux_image_reader.proofs.places.first_misplaced.Goals as goal

pub returns : goal.returns
returns c =
    let root = c.final_root.result in
    subst (IsFirst (IsMisplaced c.args.states.now))
    (sym (c.first-2.ensures ∙ ap (first_of root) c.first.ensures))
    (first_of_three c.args.states.now root c.in_ok-equal.equal c.in_ok-numbered_else.numbered_else
    c.final_root.ensures c.in_ok-equal.ensures c.in_ok-numbered_else.ensures)
