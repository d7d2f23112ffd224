use Rattle.std.proofs.Common.{[], ℕ, get_or}
use Rattle.ux_walk.proofs.Stepping.{item_at}
use Rattle.ux_listing.specs.Moves.{Only, goes}
use Rattle.ux_listing.proofs.FollowsLemmas.{so_far_none, so_far_more, so_far_all}
use Rattle.ux_listing.proofs.following.close_each.Goals as goal

pub loop-closer-init : goal.loop-closer-init
loop-closer-init g c = so_far_none (g.M.Marks.marked c.args.marks.now) c.args.config
    (λ (b : ℕ). Only (goes b c.args.config.at) []) c.args.closers.now
    (g.F.Fold.next c.args.fold.now) c.args.next.now.items

pub loop-closer-preserved : goal.loop-closer-preserved
loop-closer-preserved g c = so_far_more (g.M.Marks.marked c.args.marks.now) c.args.config
    (λ (b : ℕ). Only (goes b c.args.config.at) []) c.args.closers.now
    (g.F.Fold.next c.args.fold.now) (g.F.Fold.next c.args.fold.now) (λ s e r h. h)
    c.args.next.now.items c.loop-closer.next.items c.move_on.new.next.items
    c.loop-closer.closer-index (get_or c.args.closers.now c.loop-closer.closer-index 0)
    c.loop-closer-test.true
    (item_at c.args.closers.now c.loop-closer.closer-index 0 c.loop-closer-test.true)
    c.loop-closer.invariant c.in_ok-move_on.ensures

pub returns : goal.returns
returns g c = so_far_all (g.M.Marks.marked c.args.marks.now) c.args.config
    (λ (b : ℕ). Only (goes b c.args.config.at) []) c.args.closers.now
    (g.F.Fold.next c.args.fold.now) c.args.next.now.items c.loop-closer.next.items
    c.loop-closer.closer-index c.loop-closer-test.false c.loop-closer.invariant
