use Rattle.std.proofs.Common.{sym}
use Rattle.ux_automaton.proofs.OverLemmas.{edges_of}
use Rattle.ux_automaton.proofs.takers.may_stand_take.Goals as goal

pub returns-in-Some : goal.returns-in-Some
returns-in-Some c = λ none edge of may. c.may_one_take.ensures none edge
    ((edges_of c.args.net.now c.args.stand.here c.in-Some.state.now (sym c.in-Some.ensures)
    c.as_slice.result.now c.as_slice.ensures edge).1 of) may
