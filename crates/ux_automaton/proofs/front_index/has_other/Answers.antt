use Rattle.std.proofs.Common.{sym}
use Rattle.ux_automaton.proofs.OverLemmas.{edges_of}
use Rattle.ux_automaton.proofs.front_index.has_other.Goals as goal

pub returns-in-Some : goal.returns-in-Some
returns-in-Some c =
    let same = edges_of c.args.net.now c.args.stand.here c.in-Some.state.now
    (sym c.in-Some.ensures) c.as_slice.result.now c.as_slice.ensures in (
      λ yes. let h = c.is_other_among.ensures.0 yes in (h.0, (same h.0).0 h.1, h.2),
      λ h. c.is_other_among.ensures.1 (h.0, (same h.0).1 h.1, h.2),
    )
