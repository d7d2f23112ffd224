use Rattle.std.proofs.Common.{List, subst, sym}
use Rattle.ux_listing.specs.Sets.{IsAdded}
use Rattle.ux_listing.proofs.SetsLemmas.{added_last}
use Rattle.ux_listing.proofs.sets.push.Goals as goal

pub returns : goal.returns
returns g c = subst (λ (l : List _). IsAdded c.args.list.now.items l c.args.item)
    (sym c.in_ok-push.ensures.items) (added_last c.args.list.now.items c.args.item)
