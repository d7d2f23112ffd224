use Rattle.std.proofs.Common.{◌≡◌, ◌∙◌, List, ◌++◌, ◌∷◌, [], sym, subst, take, ◌+◌}
use Rattle.std.proofs.lemmas.List.{take_all}
use Rattle.ux_tokens.specs.Numbers.{texts_in}
use Rattle.ux_grf.specs.declared.graph.GrfBox.{GrfBox}
use Rattle.ux_boxes.specs.declared.place.Place.{Place}
use Rattle.ux_boxes.proofs.PlacesLemmas.{ArePlacesSoFar, places_next, places_whole}
use Rattle.ux_boxes.proofs.split.split_graph.Goals as goal

pub loop-number-preserved : goal.loop-number-preserved
loop-number-preserved c =
    let alphabet = c.args.alphabet.now in
    let names = texts_in c.args.names.now in
    let boxes = c.as_slice-boxes.result.now in
    let places : List Place = c.loop-number.places.items in
    let place : Place = c.in_ok-split_box.field-0 in
    let grown : c.push.new.self.items ≡ places ++ place ∷ [] = c.in_ok-push.ensures.items in
    subst (ArePlacesSoFar alphabet names (take (c.loop-number.number + 1) boxes))
    (sym {A = List Place} grown)
    (places_next alphabet names boxes places c.loop-number.number c.index-boxes-number.result
    place c.loop-number-test.true c.index-boxes-number.is c.loop-number.invariant
    c.in_ok-split_box.ensures)

pub returns : goal.returns
returns c =
    let alphabet = c.args.alphabet.now in
    let names = texts_in c.args.names.now in
    let boxes = c.as_slice-boxes.result.now in
    let whole : take c.loop-number.number boxes ≡ c.args.graph.now.boxes =
    take_all c.loop-number.number boxes c.loop-number-test.false ∙ c.as_slice-boxes.ensures in
    places_whole alphabet names c.args.graph.now.boxes c.loop-number.places.items c.requires.some
    (subst (λ (l : List GrfBox). ArePlacesSoFar alphabet names l c.loop-number.places.items) whole
    c.loop-number.invariant)
