use Rattle.std.proofs.Common.{arith, ◌+◌, ◌<◌, length, ap, get_or}
use Rattle.ux_dawg.specs.declared.state.Edge.{Edge}
use Rattle.ux_dawg.specs.Building.{bare}
use Rattle.ux_dawg.proofs.FlatLemmas.{read_state}
use Rattle.ux_image_reader.proofs.StatesLemmas.{place_behind-more, place_behind-take}
use Rattle.ux_image_reader.proofs.states.place_behind.Goals as goal

pub overflow_add-place-in-loop-number : goal.overflow_add-place-in-loop-number
overflow_add-place-in-loop-number c =
    let states = c.args.states.now in
    let n = c.loop-number.number in
    let within : n < length states = omega arith in
    let more = place_behind-more states n (get_or states n bare) within
    (read_state states n within) in
    let low = place_behind-take states (n + 1) in
    let same = ap (length {A = Edge}) c.edges.ensures in
    omega (arith, more, low, same)

pub loop-number-preserved : goal.loop-number-preserved
loop-number-preserved c =
    let states = c.args.states.now in
    let n = c.loop-number.number in
    let within : n < length states = omega arith in
    let more = place_behind-more states n (get_or states n bare) within
    (read_state states n within) in
    let same = ap (length {A = Edge}) c.edges.ensures in
    omega (arith, more, same)
