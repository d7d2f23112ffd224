use Rattle.std.proofs.Common.{sym}
use Rattle.ux_automaton.proofs.CacheLemmas.{either, through}
use Rattle.ux_automaton.proofs.OverLemmas.{edges_of}
use Rattle.ux_automaton.proofs.Results.{on_ok}
use Rattle.std.proofs.Common.{refl}
use Rattle.ux_automaton.proofs.targets.add_stand.Goals as goal

pub returns-in-Some-clause-targets : goal.returns-in-Some-clause-targets
returns-in-Some-clause-targets c = on_ok c.add_state.result _ _ (λ adds target.
    through (adds target) (either (
      λ h. (
        h.0,
        (edges_of c.args.masked.now.net.now c.args.stand.here c.in-Some.state.now
            (sym c.in-Some.ensures) c.in-Some.state.now.edges refl h.0).0 h.1,
        h.2,
      ),
      λ h. (
        h.0,
        (edges_of c.args.masked.now.net.now c.args.stand.here c.in-Some.state.now
            (sym c.in-Some.ensures) c.in-Some.state.now.edges refl h.0).1 h.1,
        h.2,
      ),
    ))) c.add_state.ensures.targets

pub add_state-requires-clause-found : goal.add_state-requires-clause-found
add_state-requires-clause-found c = sym c.in-Some.ensures
