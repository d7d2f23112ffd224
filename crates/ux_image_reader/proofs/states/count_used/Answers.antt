use Rattle.std.proofs.Common.{arith, ◌<◌, ap, get_or, length}
use Rattle.std.proofs.lemmas.Grind.{common_steps}
use Rattle.ux_dawg.specs.Building.{bare}
use Rattle.ux_dawg.proofs.FlatLemmas.{read_state}
use Rattle.ux_image_reader.specs.Layout.{final_number}
use Rattle.ux_image_reader.proofs.StatesLemmas.{final_number-le, used_by-more}
use Rattle.ux_image_reader.proofs.states.count_used.Goals as goal

pub number_of_list-requires : goal.number_of_list-requires
number_of_list-requires c =
    let states = c.args.states.now in
    let n = c.loop-number.number in
    let within : n < length states = omega arith in
    let low = final_number-le states n (get_or states n bare) within
    (read_state states n within) in
    let same = ap final_number c.code.ensures in
    omega (arith, low, same)

pub loop-number-preserved : goal.loop-number-preserved
loop-number-preserved c =
    let states = c.args.states.now in
    let n = c.loop-number.number in
    let within : n < length states = omega arith in
    let more = used_by-more states n (get_or states n bare) within
    (read_state states n within) in
    let same = ap final_number c.code.ensures in
    grind (arith, common_steps, more, same)
