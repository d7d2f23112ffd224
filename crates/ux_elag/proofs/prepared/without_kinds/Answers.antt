use Rattle.std.proofs.Common.{List, [], ◌∷◌, ◌++◌, sym, subst}
use Rattle.std.specs.List.{AllZip}
use Rattle.ux_elag.specs.declared.prepared_rule.PreparedRule.{PreparedRule}
use Rattle.ux_elag.specs.Prepared.{IsFresh}
use Rattle.ux_elag.proofs.PreparedLemmas.{fresh-more}
use Rattle.ux_elag.proofs.prepared.without_kinds.Goals as goal

pub loop-rule-preserved : goal.loop-rule-preserved
loop-rule-preserved c =
    subst (λ (rs : List PreparedRule). AllZip IsFresh (c.loop-rule.yielded ++ c.in-Some.rule ∷ [])
    rs)
    (sym c.in_ok-push.ensures.items)
    (fresh-more c.loop-rule.yielded c.loop-rule.prepared.items c.in-Some.rule c.without_kinds.result
    c.loop-rule.invariant c.without_kinds.ensures)
