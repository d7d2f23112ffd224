use Rattle.std.proofs.Common.{◌∷◌, [], ℕ}
use Rattle.ux_outputs.specs.declared.event.Event.TheVariants.{Take}
use Rattle.ux_listing.specs.Moves.{Only, goes}
use Rattle.ux_folds.specs.Folding.{Grows}
use Rattle.ux_listing.specs.Walking.{Follows}
use Rattle.ux_listing.proofs.FollowsLemmas.{SoFar}
use Rattle.ux_listing.proofs.following.take_each.Given as goal

-- the tokens up to the ends so far were taken
abbrev pub invariant-loop-end : goal.invariant-loop-end
invariant-loop-end g l = record {
  grows : Grows (g.F.Fold.next l.fn.fold) (g.F.Fold.next l.fold) (g.F.Fold.means l.fn.fold)
      (g.F.Fold.means l.fold);
  follows : Follows (g.F.Fold.next l.fold) (g.M.Marks.marked l.marks) l.config
      (SoFar (λ (k : ℕ). Only (goes l.target k) (Take l.config.at k ∷ [])) l.ends l.end-index)
      l.fn.next.items l.next.items;
}
