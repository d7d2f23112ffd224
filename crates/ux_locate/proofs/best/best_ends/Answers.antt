use Rattle.std.proofs.Common.{arith, ◌-◌, drop, length, subst, sym, take}
use Rattle.std.specs.Prelude.{Contains}
use Rattle.ux_base.specs.declared.settings.Policy.{Policy}
use Rattle.ux_locate.specs.Keeping.{AreBest}
use Rattle.ux_locate.proofs.EndsLemmas.{first_part, last_part}
use Rattle.ux_locate.proofs.best.best_ends.Goals as goal

pub returns-in-Longest : goal.returns-in-Longest
returns-in-Longest c =
    let ends = c.args.ends.now in
    let from = c.saturating_sub.result in
    subst (λ (p : Policy). AreBest p (λ end. end) (Contains ends)
    (take (length ends - from) (drop from ends))) (sym c.in-Longest.is)
    (last_part ends c.requires from c.saturating_sub.ensures)

pub returns-in-Shortest : goal.returns-in-Shortest
returns-in-Shortest c =
    let ends = c.args.ends.now in
    subst (λ (p : Policy). AreBest p (λ end. end) (Contains ends) (take c.min.result ends))
    (sym c.in-Shortest.is)
    (first_part ends c.requires c.min.result (λ some. omega (arith, some, c.min.ensures)))
