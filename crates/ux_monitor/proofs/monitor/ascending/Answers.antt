use Rattle.std.proofs.Common.{ℕ, List, ◌↔◌, sym, subst}
use Rattle.std.specs.Prelude.{Contains}
use Rattle.ux_monitor.proofs.monitor.ascending.Goals as goal

pub returns : goal.returns
returns c = λ t.
    subst (λ (xs : List ℕ). Contains xs t ↔ Contains c.args.tests.now t) (sym c.in_ok-kind.ensures)
    (c.in_ok-set.ensures t)
