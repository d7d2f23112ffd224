use Rattle.ux_listing.proofs.FollowsLemmas.{follows_call}
use Rattle.ux_listing.proofs.GoingLemmas.{on_two}
use Rattle.ux_listing.proofs.following.call.Goals as goal

pub returns : goal.returns
returns g c = on_two c.put_config.result (λ adds put.
    follows_call (g.F.Fold.next c.args.fold.now) (g.M.Marks.marked c.args.marks.now) c.args.config
    c.args.graph c.args.to c.args.next.now.items c.push.new.list.items c.put_config.new.next.items
    c.in_ok-push.ensures adds put) c.put_config.ensures.adds c.put_config.ensures.put
