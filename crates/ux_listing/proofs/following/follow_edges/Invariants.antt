use Rattle.ux_net.specs.declared.state.Edge.{Edge}
use Rattle.ux_folds.specs.Folding.{Grows}
use Rattle.ux_walk.specs.Settings.{masked_setting}
use Rattle.ux_listing.specs.Moves.{Crosses}
use Rattle.ux_listing.specs.Walking.{Follows}
use Rattle.ux_listing.proofs.FollowsLemmas.{SoFar}
use Rattle.ux_listing.proofs.following.follow_edges.Given as goal

-- the edges so far were followed
abbrev pub invariant-loop-edge : goal.invariant-loop-edge
invariant-loop-edge g l = record {
  grows : Grows (g.F.Fold.next l.fn.fold) (g.F.Fold.next l.fold) (g.F.Fold.means l.fn.fold)
      (g.F.Fold.means l.fold);
  follows : Follows (g.F.Fold.next l.fold) (g.M.Marks.marked l.marks) l.config
      (SoFar (λ (edge : Edge). Crosses (masked_setting l.masked) (g.C.Contexts.applies l.contexts)
      l.config.visit.graph edge l.config.at) l.edges l.edge-index) l.fn.next.items l.next.items;
}
