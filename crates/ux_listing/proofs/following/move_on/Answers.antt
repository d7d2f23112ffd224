use Rattle.std.proofs.Common.{[], refl}
use Rattle.ux_listing.proofs.FollowsLemmas.{follows_one}
use Rattle.ux_listing.proofs.GoingLemmas.{on_two}
use Rattle.ux_listing.proofs.following.move_on.Goals as goal

pub returns : goal.returns
returns g c = on_two c.put_config.result (λ adds put.
    follows_one (g.F.Fold.next c.args.fold.now) (g.M.Marks.marked c.args.marks.now) c.args.config
    c.args.state c.args.config.at c.args.config.fold [] c.args.next.now.items
    c.put_config.new.next.items refl adds put) c.put_config.ensures.adds c.put_config.ensures.put
