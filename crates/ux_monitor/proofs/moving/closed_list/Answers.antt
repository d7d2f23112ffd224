use Rattle.std.proofs.Common.{ℕ, List, ◌↔◌, sym, subst}
use Rattle.std.specs.Prelude.{Contains}
use Rattle.ux_monitor.specs.Walks.{Reaches}
use Rattle.ux_monitor.proofs.moving.closed_list.Goals as goal

pub returns : goal.returns
returns c =
    subst (λ (xs : List ℕ). (k : ℕ) → Contains xs k ↔
    Reaches c.args.steps.now c.args.ahead.items k) (sym c.in_ok-list.ensures) c.in_ok-found.ensures
