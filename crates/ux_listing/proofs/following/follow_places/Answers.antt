use Rattle.std.proofs.Common.{ℕ, get_or}
use Rattle.ux_walk.specs.Settings.{masked_setting}
use Rattle.ux_listing.specs.Moves.{CrossesAt}
use Rattle.ux_walk.proofs.Stepping.{item_at}
use Rattle.ux_listing.proofs.FollowsLemmas.{grows_none, grows_both, known_still, so_far_none, so_far_more, so_far_all}
use Rattle.ux_listing.proofs.following.follow_places.Goals as goal

pub loop-place-init : goal.loop-place-init
loop-place-init g c = record {
  grows = grows_none (g.F.Fold.next c.args.fold.now) (g.F.Fold.means c.args.fold.now);
  follows = so_far_none (g.M.Marks.marked c.args.marks.now) c.args.config
      (λ (place : ℕ). CrossesAt (masked_setting c.args.masked.now) (g.C.Contexts.applies c.args.contexts.now) c.args.config.visit.graph c.args.edges.now place c.args.config.at)
      c.args.places.now (g.F.Fold.next c.args.fold.now) c.args.next.now.items;
}

pub follow_place-requires-clause-known : goal.follow_place-requires-clause-known
follow_place-requires-clause-known g c =
    known_still c.loop-place.invariant.grows c.args.config.fold c.requires.known

pub loop-place-preserved : goal.loop-place-preserved
loop-place-preserved g c = record {
  grows = grows_both c.loop-place.invariant.grows c.in_ok-follow_place.ensures.grows;
  follows = so_far_more (g.M.Marks.marked c.args.marks.now) c.args.config
      (λ (place : ℕ). CrossesAt (masked_setting c.args.masked.now) (g.C.Contexts.applies c.args.contexts.now) c.args.config.visit.graph c.args.edges.now place c.args.config.at)
      c.args.places.now (g.F.Fold.next c.loop-place.fold) (g.F.Fold.next c.follow_place.new.fold)
      c.in_ok-follow_place.ensures.grows.next c.args.next.now.items c.loop-place.next.items
      c.follow_place.new.next.items c.loop-place.place-index
      (get_or c.args.places.now c.loop-place.place-index 0) c.loop-place-test.true
      (item_at c.args.places.now c.loop-place.place-index 0 c.loop-place-test.true)
      c.loop-place.invariant.follows c.in_ok-follow_place.ensures.follows;
}

pub returns-clause-grows : goal.returns-clause-grows
returns-clause-grows g c = c.loop-place.invariant.grows

pub returns-clause-follows : goal.returns-clause-follows
returns-clause-follows g c = so_far_all (g.M.Marks.marked c.args.marks.now) c.args.config
    (λ (place : ℕ). CrossesAt (masked_setting c.args.masked.now) (g.C.Contexts.applies c.args.contexts.now) c.args.config.visit.graph c.args.edges.now place c.args.config.at)
    c.args.places.now (g.F.Fold.next c.loop-place.fold) c.args.next.now.items
    c.loop-place.next.items c.loop-place.place-index c.loop-place-test.false
    c.loop-place.invariant.follows
