use Rattle.std.proofs.Common.{sym}
use Rattle.ux_automaton.proofs.CacheLemmas.{either, through}
use Rattle.ux_automaton.proofs.OverLemmas.{edges_of}
use Rattle.ux_automaton.proofs.Results.{on_ok}
use Rattle.ux_automaton.proofs.front_index.add_stand.Goals as goal

pub returns-in-Some : goal.returns-in-Some
returns-in-Some c = on_ok c.add_edges.result _ _ (λ adds fitting.
    through (adds fitting) (either (
      λ h. (
        h.0,
        (edges_of c.args.masked.now.net.now c.args.stand.here c.in-Some.state.now
            (sym c.in-Some.ensures) c.as_slice.result.now c.as_slice.ensures h.0).0 h.1,
        h.2,
      ),
      λ h. (
        h.0,
        (edges_of c.args.masked.now.net.now c.args.stand.here c.in-Some.state.now
            (sym c.in-Some.ensures) c.as_slice.result.now c.as_slice.ensures h.0).1 h.1,
        h.2,
      ),
    ))) c.add_edges.ensures
