use Rattle.std.proofs.Common.{◌≡◌, refl}
use Rattle.ux_admission.specs.Spots.{IsOpeningSpot, spot_of}
use Rattle.ux_admission.proofs.GainsLemmas.{gains_one, gains_then}
use Rattle.ux_admission.proofs.cycles.push_nodes.Goals as goal

pub returns : goal.returns
returns c =
    let way = c.args.way in
    let here = spot_of way way.source in
    gains_then c.args.spots.now.items c.push.new.self.items c.push_opening.new.spots.items
    (λ spot. here ≡ spot) (IsOpeningSpot way)
    (gains_one c.args.spots.now.items c.push.new.self.items here (λ spot. here ≡ spot)
    c.in_ok-push.ensures.items refl (λ spot e. e)) c.in_ok-push_opening.ensures
