use Rattle.std.proofs.Common.{ℕ}
use Rattle.ux_walk.specs.Settings.{masked_setting}
use Rattle.ux_listing.specs.Moves.{CrossesAt}
use Rattle.ux_folds.specs.Folding.{Grows}
use Rattle.ux_listing.specs.Walking.{Follows}
use Rattle.ux_listing.proofs.FollowsLemmas.{SoFar}
use Rattle.ux_listing.proofs.following.follow_places.Given as goal

-- the edges at the places so far were followed
abbrev pub invariant-loop-place : goal.invariant-loop-place
invariant-loop-place g l = record {
  grows : Grows (g.F.Fold.next l.fn.fold) (g.F.Fold.next l.fold) (g.F.Fold.means l.fn.fold)
      (g.F.Fold.means l.fold);
  follows : Follows (g.F.Fold.next l.fold) (g.M.Marks.marked l.marks) l.config
      (SoFar (λ (place : ℕ). CrossesAt (masked_setting l.masked) (g.C.Contexts.applies l.contexts) l.config.visit.graph l.edges place l.config.at) l.places l.place-index)
      l.fn.next.items l.next.items;
}
