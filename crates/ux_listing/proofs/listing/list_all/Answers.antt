use Rattle.std.proofs.lemmas.Result.{IfOk-weaker, on_ok_weaker}
use Rattle.ux_listing.proofs.listing.list_all.Goals as goal

pub list-requires-clause-complete : goal.list-requires-clause-complete
list-requires-clause-complete g c = λ m leads. tt

pub returns-clause-exact : goal.returns-clause-exact
returns-clause-exact g c = IfOk-weaker c.list.result _ _ (λ ends h e u. h e u tt)
    c.list.ensures.exact

pub returns-clause-folded : goal.returns-clause-folded
returns-clause-folded g c = on_ok_weaker c.list.result (λ h e events der. h e events tt der)
    c.list.ensures.folded
