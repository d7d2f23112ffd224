use Rattle.std.proofs.Common.{List, Vec, Global, ◌≡◌, ◌∙◌, ◌↔◌, sym, subst, ap}
use Rattle.std.specs.Prelude.{Contains}
use Rattle.ux_subsets.specs.Rows.{row_at}
use Rattle.ux_monitor.specs.declared.rule.Step.{Step}
use Rattle.ux_monitor.proofs.steps.Steps.leaving.Goals as goal

pub returns : goal.returns
returns c = λ s.
    let row = c.row_of.ensures
    ∙ ap (λ (rows : List (Vec Step Global)). row_at rows c.args.place) c.as_slice.ensures.value in
    let leaves = c.self.invariant c.args.place s in
    subst (λ (list : List Step). Contains c.row_of.result.now s ↔
    (Contains list s × (s.from ≡ c.args.place))) c.self.view_is
    (subst (λ (xs : List Step). Contains xs s ↔
    (Contains c.self.inside.list.items s × (s.from ≡ c.args.place))) (sym row) leaves)
