use Rattle.std.proofs.Common.{arith, subst}
use Rattle.ux_image_reader.specs.Fronts.{IsMisplaced}
use Rattle.ux_image_reader.specs.Reading.{IsFirst}
use Rattle.ux_image_reader.proofs.PlacesLemmas.{misplaced_within}
use Rattle.ux_image_reader.proofs.places.accept_states.Goals as goal

pub place_behind-offset-requires-clause-within : goal.place_behind-offset-requires-clause-within
place_behind-offset-requires-clause-within c =
    let states = c.args.states.now in
    let first = subst (IsFirst (IsMisplaced states)) c.in-Some.is c.in_ok-number.ensures in
    let within = misplaced_within states c.in-Some.number first.0 in omega (arith, within)
