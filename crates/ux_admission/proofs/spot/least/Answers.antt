use Rattle.std.proofs.Common.{List, get_or, subst, sym, take}
use Rattle.std.proofs.lemmas.List.{take_more, take_all}
use Rattle.std.specs.Prelude.{Some}
use Rattle.ux_admission.specs.declared.spot.Spot.{Spot}
use Rattle.ux_admission.specs.Spots.{IsLeast}
use Rattle.ux_admission.proofs.SpotsLemmas.{least_more}
use Rattle.ux_admission.proofs.spot.least.Goals as goal

pub loop-spot-preserved : goal.loop-spot-preserved
loop-spot-preserved c =
    let first : Spot = record { graph = 0; node = 0 } in
    let spot = get_or c.args.spots.now c.loop-spot.spot-index first in
    subst (λ (spots : List Spot). IsLeast spots (Some c.lesser.result))
    (sym (take_more c.args.spots.now c.loop-spot.spot-index first c.loop-spot-test.true))
    (least_more (take c.loop-spot.spot-index c.args.spots.now) c.loop-spot.best spot
    c.lesser.result c.loop-spot.invariant c.lesser.ensures.one c.lesser.ensures.spot
    c.lesser.ensures.best)

pub returns : goal.returns
returns c =
    subst (λ (spots : List Spot). IsLeast spots c.loop-spot.best)
    (take_all c.loop-spot.spot-index c.args.spots.now c.loop-spot-test.false)
    c.loop-spot.invariant
