use Rattle.std.proofs.Common.{◌∷◌, [], ℕ, get_or}
use Rattle.ux_outputs.specs.declared.event.Event.TheVariants.{Take}
use Rattle.ux_listing.specs.Moves.{Only, goes}
use Rattle.ux_walk.proofs.Stepping.{item_at}
use Rattle.ux_listing.proofs.FollowsLemmas.{grows_none, grows_both, known_still, so_far_none, so_far_more, so_far_all}
use Rattle.ux_listing.proofs.following.take_each.Goals as goal

pub loop-end-init : goal.loop-end-init
loop-end-init g c = record {
  grows = grows_none (g.F.Fold.next c.args.fold.now) (g.F.Fold.means c.args.fold.now);
  follows = so_far_none (g.M.Marks.marked c.args.marks.now) c.args.config
      (λ (k : ℕ). Only (goes c.args.target k) (Take c.args.config.at k ∷ []))
      c.args.ends.now (g.F.Fold.next c.args.fold.now) c.args.next.now.items;
}

pub take-requires : goal.take-requires
take-requires g c =
    known_still c.loop-end.invariant.grows c.args.config.fold c.requires

pub loop-end-preserved : goal.loop-end-preserved
loop-end-preserved g c = record {
  grows = grows_both c.loop-end.invariant.grows c.in_ok-take.ensures.grows;
  follows = so_far_more (g.M.Marks.marked c.args.marks.now) c.args.config
      (λ (k : ℕ). Only (goes c.args.target k) (Take c.args.config.at k ∷ []))
      c.args.ends.now (g.F.Fold.next c.loop-end.fold) (g.F.Fold.next c.take.new.fold)
      c.in_ok-take.ensures.grows.next c.args.next.now.items c.loop-end.next.items
      c.take.new.next.items c.loop-end.end-index
      (get_or c.args.ends.now c.loop-end.end-index 0) c.loop-end-test.true
      (item_at c.args.ends.now c.loop-end.end-index 0 c.loop-end-test.true)
      c.loop-end.invariant.follows c.in_ok-take.ensures.follows;
}

pub returns-clause-grows : goal.returns-clause-grows
returns-clause-grows g c = c.loop-end.invariant.grows

pub returns-clause-follows : goal.returns-clause-follows
returns-clause-follows g c = so_far_all (g.M.Marks.marked c.args.marks.now) c.args.config
    (λ (k : ℕ). Only (goes c.args.target k) (Take c.args.config.at k ∷ []))
    c.args.ends.now (g.F.Fold.next c.loop-end.fold) c.args.next.now.items
    c.loop-end.next.items c.loop-end.end-index c.loop-end-test.false
    c.loop-end.invariant.follows
