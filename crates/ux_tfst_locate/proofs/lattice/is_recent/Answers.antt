use Rattle.ux_base.proofs.OrderedLists.{Contains-at}
use Rattle.ux_tfst_locate.proofs.lattice.is_recent.Goals as goal

pub returns-then-stands_at : goal.returns-then-stands_at
returns-then-stands_at c = λ _. Contains-at c.args.places.now c.args.place.now _
    (c.stands_at.ensures c.if-stands_at.true)

pub returns : goal.returns
returns c = λ yes. Contains-at c.args.places.now c.args.place.now _ (c.stands_at-2.ensures yes)
