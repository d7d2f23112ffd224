use Rattle.std.proofs.Common.{ℕ, List, ◌↔◌, subst}
use Rattle.std.specs.Prelude.{Contains}
use Rattle.ux_monitor.specs.Walks.{Reaches}
use Rattle.ux_monitor.proofs.moving.closed_from.Goals as goal

pub returns : goal.returns
returns c =
    subst (λ (xs : List ℕ). (k : ℕ) → Contains c.in_ok-list.list.items k ↔
    Reaches c.args.steps.now xs k) c.in_ok-ahead.ensures.items c.in_ok-list.ensures
