use Rattle.ux_automaton.proofs.CacheLemmas.{either, through}
use Rattle.ux_automaton.proofs.Results.{on_ok}
use Rattle.ux_automaton.proofs.targets.put_after.Goals as goal

pub returns-then-after-at : goal.returns-then-after-at
returns-then-after-at c = on_ok c.put.result _ _ (λ is end. through (is end)
    (either ((λ e. (c.if-after-at.true, e)), λ h. h.1))) c.put.ensures
