use Rattle.ux_walk.proofs.Results.{on_ok}
use Rattle.ux_walk.proofs.reached.Reached.close.Goals as goal

pub returns : goal.returns
returns c = on_ok c.pend.result _ _ (λ adds v before sound spells.
    adds v before sound (record { visit = spells.visit; events = spells.events }))
    c.pend.ensures
