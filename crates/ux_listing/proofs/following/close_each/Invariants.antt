use Rattle.std.proofs.Common.{[], ℕ}
use Rattle.ux_listing.specs.Moves.{Only, goes}
use Rattle.ux_listing.specs.Walking.{Follows}
use Rattle.ux_listing.proofs.FollowsLemmas.{SoFar}
use Rattle.ux_listing.proofs.following.close_each.Given as goal

-- the walk goes on at the states so far
abbrev pub invariant-loop-closer : goal.invariant-loop-closer
invariant-loop-closer g l = Follows (g.F.Fold.next l.fold) (g.M.Marks.marked l.marks) l.config
    (SoFar (λ (b : ℕ). Only (goes b l.config.at) []) l.closers l.closer-index) l.fn.next.items
    l.next.items
