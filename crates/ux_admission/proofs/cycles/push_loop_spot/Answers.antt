use Rattle.std.proofs.Common.{◌≡◌, arith, get_or}
use Rattle.std.proofs.lemmas.Grind.{common_steps}
use Rattle.ux_admission.specs.Ways.{IsOpen}
use Rattle.ux_admission.specs.Spots.{IsSpotOn, IsLoopSpot}
use Rattle.ux_admission.proofs.GainsLemmas.{gains_as}
use Rattle.ux_admission.proofs.cycles.push_loop_spot.Goals as goal

pub returns : goal.returns
returns c =
    let way = c.args.way in
    let marks = c.args.marks.now in
    let numbers = c.args.numbers.now in
    let opened : IsOpen marks way.passage = grind (arith, common_steps) in
    let same : get_or numbers way.from 0 ≡ get_or numbers way.to 0 = grind (arith, common_steps) in
    gains_as c.args.spots.now.items c.push_nodes.new.spots.items (IsSpotOn way)
    (IsLoopSpot marks numbers way) (λ spot. (λ on. (opened, same, on), λ l. l.2))
    c.in_ok-push_nodes.ensures
