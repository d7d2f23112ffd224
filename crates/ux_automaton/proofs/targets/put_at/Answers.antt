use Rattle.ux_automaton.proofs.CacheLemmas.{either, through}
use Rattle.ux_automaton.proofs.Results.{on_ok}
use Rattle.ux_automaton.proofs.targets.put_at.Goals as goal

pub returns-then-target-at : goal.returns-then-target-at
returns-then-target-at c = on_ok c.put.result _ _ (λ is stand. through (is stand)
    (either ((λ e. (c.if-target-at.true, e)), λ h. h.1))) c.put.ensures
