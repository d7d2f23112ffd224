use Rattle.std.proofs.Common.{sym}
use Rattle.ux_automaton.proofs.OverLemmas.{edges_of}
use Rattle.ux_automaton.proofs.targets.has_mask.Goals as goal

pub returns-in-Some : goal.returns-in-Some
returns-in-Some c = λ none edge mask of is. c.is_mask_among.ensures none edge mask
    ((edges_of c.args.net.now c.args.stand.here c.in-Some.state.now (sym c.in-Some.ensures)
    c.as_slice.result.now c.as_slice.ensures edge).1 of) is
