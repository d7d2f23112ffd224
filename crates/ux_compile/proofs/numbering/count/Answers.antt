use Rattle.std.proofs.Common.{arith}
use Rattle.ux_compile.proofs.StatesLemmas.{number_next, number_fits}
use Rattle.ux_compile.proofs.numbering.count.Goals as goal

pub overflow_add-count : goal.overflow_add-count
overflow_add-count c =
    let fits = number_fits c.args.places.now c.requires c.loop-place.place (omega arith) in
    omega arith

pub loop-place-preserved : goal.loop-place-preserved
loop-place-preserved c = omega (arith, number_next c.args.places.now c.loop-place.place)
