use Rattle.std.specs.Prelude.{Some}
use Rattle.ux_folds.specs.Folding.{Grows}
use Rattle.ux_listing.specs.Walking.{IsKnown}
use Rattle.ux_listing.proofs.OutputsLemmas.{FoldsTo}
use Rattle.ux_listing.proofs.outputs.put_out.Given as goal

-- the events of the pieces so far were folded
abbrev pub invariant-loop-piece : goal.invariant-loop-piece
invariant-loop-piece g l = record {
  grows : Grows (g.F.Fold.next l.fn.fold) (g.F.Fold.next l.fold) (g.F.Fold.means l.fn.fold)
      (g.F.Fold.means l.fold);
  known : IsKnown (g.F.Fold.means l.fold) l.after;
  folds : FoldsTo l.state l.output (g.F.Fold.next l.fold) l.piece-index (Some l.after);
}
