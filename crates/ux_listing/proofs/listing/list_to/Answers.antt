use Rattle.std.proofs.Common.{List, ℕ, subst, sym}
use Rattle.std.specs.Prelude.{Contains}
use Rattle.std.proofs.lemmas.Result.{IfOk-weaker, on_ok_weaker}
use Rattle.ux_listing.proofs.listing.list_to.Goals as goal

pub returns-clause-exact : goal.returns-clause-exact
returns-clause-exact g c = IfOk-weaker c.list.result _ _ (λ found h e u inside.
    h e u (subst (λ (l : List ℕ). Contains l e) (sym c.in_ok-set.ensures.ends) inside))
    c.list.ensures.exact

pub returns-clause-folded : goal.returns-clause-folded
returns-clause-folded g c = on_ok_weaker c.list.result (λ h e events inside der.
    h e events (subst (λ (l : List ℕ). Contains l e) (sym c.in_ok-set.ensures.ends) inside) der)
    c.list.ensures.folded
