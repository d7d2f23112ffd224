use Rattle.std.proofs.Common.{arith, []}
use Rattle.ux_compile.specs.Construct.{number}
use Rattle.ux_base.proofs.JoinedLists.{adds_item}
use Rattle.ux_compile.proofs.StatesLemmas.{number_next, number_fits}
use Rattle.ux_compile.proofs.numbering.numbers.Goals as goal

pub overflow_add-number : goal.overflow_add-number
overflow_add-number c =
    let fits = number_fits c.args.places.now c.requires c.loop-place.place (omega arith) in
    omega arith

pub loop-place-preserved : goal.loop-place-preserved
loop-place-preserved c = record {
  count = omega (arith, number_next c.args.places.now c.loop-place.place);
  items = adds_item (number c.args.places.now) [] c.loop-place.numbers.items
      c.push.new.self.items c.loop-place.number c.loop-place.place
      c.loop-place.invariant.items c.in_ok-push.ensures.items c.loop-place.invariant.count;
}
