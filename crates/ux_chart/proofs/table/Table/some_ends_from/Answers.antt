use Rattle.std.proofs.Common.{ℕ, List, length, sym, subst}
use Rattle.std.specs.Prelude.{Contains}
use Rattle.ux_chart.specs.declared.table.Answer.{Answer}
use Rattle.ux_chart.specs.Tables.{cut, IsStretchOf}
use Rattle.ux_chart.proofs.Cuts.{cut_contains}
use Rattle.ux_chart.proofs.table.Table.some_ends_from.Goals as goal

pub some_end_from-requires : goal.some_end_from-requires
some_end_from-requires c = λ answer inside.
    subst (λ (l : List ℕ). IsStretchOf (length l) answer.ends) (sym c.deref-2.ensures.value)
    (c.requires.table.ends answer
    (cut_contains c.args.self.now.answers.items c.args.row answer
    (subst (λ (l : List Answer). Contains (cut l c.args.row) answer) c.deref.ensures.value inside)))
