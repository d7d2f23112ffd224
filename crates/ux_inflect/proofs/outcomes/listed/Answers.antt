use Rattle.std.proofs.Common.{subst, sym}
use Rattle.std.specs.List.{IsDistinct}
use Rattle.std.proofs.lemmas.Iterator.{items_from_collect}
use Rattle.std.proofs.lemmas.Iterator.Consumers.{YieldsList-from_rest}
use Rattle.std.proofs.lemmas.Result.{IfOk-weaker}
use Rattle.ux_inflect.proofs.outcomes.listed.Goals as goal

pub returns-clause-once : goal.returns-clause-once
returns-clause-once g c =
    let made = items_from_collect c.collect.result c.collect.ensures.ran
    (YieldsList-from_rest c.args.set.keys (cc)) in
    IfOk-weaker c.collect.result _ _
    (λ listed is. subst (λ l. IsDistinct g.T.PartialEq.eq l) (sym is)
    c.into_iter.ensures.into_iter_gives.3) made
