use Rattle.std.proofs.Common.{List, subst, ◌↔◌}
use Rattle.std.specs.Prelude.{Contains, IsTrue}
use Rattle.ux_monitor.specs.declared.owing.Obligation.{Obligation}
use Rattle.ux_monitor.specs.Owing.{IsWell}
use Rattle.ux_monitor.proofs.watching.seen_of.Goals as goal

pub returns-clause-well : goal.returns-clause-well
returns-clause-well c =
    subst (λ (xs : List Obligation). IsTrue c.in_ok-is_accepted.is_accepted ↔
    ((o : Obligation) → Contains xs o → IsWell c.args.steps.now c.args.ends.now o))
    c.as_slice.ensures.value c.in_ok-is_accepted.ensures
