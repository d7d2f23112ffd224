use Rattle.std.proofs.Common.{ℕ, List, [], ◌∷◌, ◌↔◌, sym, subst}
use Rattle.std.specs.Prelude.{Contains}
use Rattle.ux_monitor.specs.Rules.{Run}
use Rattle.ux_monitor.proofs.moving.marked.Goals as goal

pub returns : goal.returns
returns c =
    subst (λ (xs : List ℕ). (k : ℕ) → Contains xs k ↔ ((p : ℕ) × Contains c.args.from.now p
    × Run c.args.steps.now p k (c.args.mark ∷ []))) (sym c.in_ok-list.ensures)
    c.in_ok-found.ensures
