use Rattle.std.proofs.Common.{sym}
use Rattle.ux_net.specs.declared.state.Edge.{Edge}
use Rattle.ux_mask_table.proofs.KnownLabels.{edge_known}
use Rattle.ux_walk.specs.Settings.{masked_setting}
use Rattle.ux_listing.specs.Moves.{Crosses}
use Rattle.ux_listing.proofs.FollowsLemmas.{grows_none, grows_both, known_still, so_far_none, so_far_more, so_far_all}
use Rattle.ux_listing.proofs.following.follow_edges.Goals as goal

pub loop-edge-init : goal.loop-edge-init
loop-edge-init g c = record {
  grows = grows_none (g.F.Fold.next c.args.fold.now) (g.F.Fold.means c.args.fold.now);
  follows = so_far_none (g.M.Marks.marked c.args.marks.now) c.args.config
      (λ (edge : Edge). Crosses (masked_setting c.args.masked.now)
      (g.C.Contexts.applies c.args.contexts.now) c.args.config.visit.graph edge c.args.config.at)
      c.args.edges.now (g.F.Fold.next c.args.fold.now) c.args.next.now.items;
}

pub follow-requires-clause-known_label : goal.follow-requires-clause-known_label
follow-requires-clause-known_label g c =
    edge_known c.args.masked.now c.args.edges.now c.edge-item.result c.requires.known_edges
    (c.loop-edge.edge-index, c.loop-edge-test.true, sym c.edge-item.is)

pub follow-requires-clause-asked : goal.follow-requires-clause-asked
follow-requires-clause-asked g c = λ opens. c.requires.asked c.edge-item.result
    (c.loop-edge.edge-index, c.loop-edge-test.true, sym c.edge-item.is) opens

pub follow-requires-clause-known : goal.follow-requires-clause-known
follow-requires-clause-known g c =
    known_still c.loop-edge.invariant.grows c.args.config.fold c.requires.known

pub loop-edge-preserved : goal.loop-edge-preserved
loop-edge-preserved g c = record {
  grows = grows_both c.loop-edge.invariant.grows c.in_ok-follow.ensures.grows;
  follows = so_far_more (g.M.Marks.marked c.args.marks.now) c.args.config
      (λ (edge : Edge). Crosses (masked_setting c.args.masked.now)
      (g.C.Contexts.applies c.args.contexts.now) c.args.config.visit.graph edge c.args.config.at)
      c.args.edges.now (g.F.Fold.next c.loop-edge.fold) (g.F.Fold.next c.follow.new.fold)
      c.in_ok-follow.ensures.grows.next c.args.next.now.items c.loop-edge.next.items
      c.follow.new.next.items c.loop-edge.edge-index c.edge-item.result c.loop-edge-test.true
      c.edge-item.is c.loop-edge.invariant.follows c.in_ok-follow.ensures.follows;
}

pub returns-clause-grows : goal.returns-clause-grows
returns-clause-grows g c = c.loop-edge.invariant.grows

pub returns-clause-follows : goal.returns-clause-follows
returns-clause-follows g c = so_far_all (g.M.Marks.marked c.args.marks.now) c.args.config
    (λ (edge : Edge). Crosses (masked_setting c.args.masked.now)
    (g.C.Contexts.applies c.args.contexts.now) c.args.config.visit.graph edge c.args.config.at)
    c.args.edges.now (g.F.Fold.next c.loop-edge.fold) c.args.next.now.items
    c.loop-edge.next.items c.loop-edge.edge-index c.loop-edge-test.false
    c.loop-edge.invariant.follows
