use Rattle.std.proofs.Common.{◌<◌, ◌+◌, ◌-◌, ◌++◌, arith, sym, ◌∙◌}
use Rattle.ux_dict.proofs.KeyLemmas.{number_of-next, number_of-end, number_small, power_more}
use Rattle.ux_dict.proofs.keys.number.Goals as goal

pub overflow_mul-number : goal.overflow_mul-number
overflow_mul-number c =
    let small = number_small c.loop-place.place c.loop-place.number (omega arith)
    c.loop-place.invariant.small in
    omega (arith, small)

pub overflow_add-number : goal.overflow_add-number
overflow_add-number c =
    let small = number_small c.loop-place.place c.loop-place.number (omega arith)
    c.loop-place.invariant.small in
    let byte : c.from.result < 256 = omega arith in
    omega (arith, small, byte)

pub loop-place-preserved : goal.loop-place-preserved
loop-place-preserved c =
    let text = c.args.front.now ++ c.args.more.now in
    let place = c.loop-place.place in
    let read = c.loop-place.number in
    let byte : c.from.result < 256 = omega arith in
    let is = c.from.ensures ∙ c.byte_at.ensures in
    record {
      small = power_more place read c.from.result c.loop-place.invariant.small byte;
      left = number_of-next c.args.missing (8 - (place + 1)) (8 - place) read c.from.result text
          place (omega arith) is ∙ c.loop-place.invariant.left;
    }

pub returns : goal.returns
returns c =
    sym (number_of-end c.args.missing (8 - c.loop-place.place) c.loop-place.number _ (omega arith))
    ∙ c.loop-place.invariant.left
