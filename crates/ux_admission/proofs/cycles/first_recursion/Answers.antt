use Rattle.std.proofs.Common.{List, [], subst, sym}
use Rattle.ux_admission.specs.declared.spot.Spot.{Spot}
use Rattle.ux_admission.specs.Gains.{Gains, SoOfOne}
use Rattle.ux_admission.specs.Spots.{IsEntrySpot}
use Rattle.ux_admission.proofs.FirstLemmas.{first_recursion_is}
use Rattle.ux_admission.proofs.cycles.first_recursion.Goals as goal

pub returns : goal.returns
returns c =
    first_recursion_is c.args.graphs.now c.requires.fit c.args.ways.now c.requires.ways
    c.args.numbers.now c.deref.result.now c.least.result c.least.ensures c.requires.numbers
    (subst (λ (spots : List Spot). Gains [] spots
    (SoOfOne c.args.ways.now (IsEntrySpot c.args.numbers.now)))
    (sym c.deref.ensures.value)
    (subst (λ (spots : List Spot). Gains spots c.push_entry_spots.new.spots.items
    (SoOfOne c.args.ways.now (IsEntrySpot c.args.numbers.now)))
    c.new-spots.ensures.items c.in_ok-push_entry_spots.ensures))
