use Rattle.std.proofs.Common.{sym, ◌∙◌}
use Rattle.ux_walk.specs.Settings.{masked_setting}
use Rattle.ux_listing.specs.Reaching.{IsOf, WaitsFor}
use Rattle.ux_listing.specs.Walking.{IsKnown}
use Rattle.ux_listing.proofs.FollowsLemmas.{grows_none, grows_both}
use Rattle.ux_listing.proofs.ReachingLemmas.{index_none, walking_begins, walking_ends}
use Rattle.ux_listing.proofs.walking.walk.Goals as goal

pub loop-item-init : goal.loop-item-init
loop-item-init g c = record {
  sound = c.requires.sound;
  grows = grows_none (g.F.Fold.next c.args.fold.now) (g.F.Fold.means c.args.fold.now);
  origins = c.requires.origins;
  reached = record {
    walking = walking_begins (masked_setting c.args.masked.now)
        (g.C.Contexts.applies c.args.contexts.now) c.args.start c.args.first
        (g.M.Marks.marked c.args.marks.now) (g.F.Fold.next c.args.fold.now)
        (IsKnown (g.F.Fold.means c.args.fold.now)) (g.O.Origins.told c.args.origins.now)
        c.new.result.keys c.begin.new.seen.keys c.requires.known c.new.ensures
        c.in_ok-begin.ensures.adds c.in_ok-begin.ensures.put;
    waits = index_none WaitsFor c.begin.new.seen.keys c.new-2.result c.new-2.ensures.keyed
        c.new-2.ensures.nothing;
    found = index_none IsOf c.begin.new.seen.keys c.new-3.result c.new-3.ensures.keyed
        c.new-3.ensures.nothing;
  };
}

pub step-requires-clause-next : goal.step-requires-clause-next
step-requires-clause-next g c = sym c.in-Some.ensures.is

pub loop-item-preserved : goal.loop-item-preserved
loop-item-preserved g c = record {
  sound = c.step.ensures.sound;
  grows = grows_both c.loop-item.invariant.grows c.in_ok-step.ensures.grows;
  origins = c.in_ok-step.ensures.origins;
  reached = c.in_ok-step.ensures.reached;
}

pub returns-clause-walked : goal.returns-clause-walked
returns-clause-walked g c = walking_ends (masked_setting c.args.masked.now)
    (g.C.Contexts.applies c.args.contexts.now) c.args.start c.args.first
    (g.M.Marks.marked c.args.marks.now) (g.F.Fold.next c.loop-item.fold)
    (IsKnown (g.F.Fold.means c.loop-item.fold)) (g.O.Origins.told c.loop-item.origins)
    c.loop-item.reached.seen.keys c.loop-item.next (sym c.in_default.is ∙ c.item_at.ensures.is)
    c.loop-item.invariant.reached.walking
