use Rattle.std.proofs.Common.{ℕ, ◌+◌, refl, subst}
use Rattle.std.specs.Prelude.{Option, Some, None}
use Rattle.ux_walk.specs.Courses.{put_event}
use Rattle.ux_listing.proofs.FollowsLemmas.{grows_none, grows_both}
use Rattle.ux_listing.proofs.OutputsLemmas.{folds_piece, folds_out, folds_pieces}
use Rattle.ux_listing.proofs.outputs.put_out.Goals as goal

pub loop-piece-init : goal.loop-piece-init
loop-piece-init g c = record {
  grows = grows_none (g.F.Fold.next c.args.fold.now) (g.F.Fold.means c.args.fold.now);
  known = c.requires;
  folds = refl;
}

pub loop-piece-preserved : goal.loop-piece-preserved
loop-piece-preserved g c =
    let told = subst (λ (r : Option ℕ). g.F.Fold.next c.put_piece.new.fold c.loop-piece.after
    (put_event c.piece-item.result) r) c.in-Some.is c.in_ok-next.ensures.next in
    record {
      grows = grows_both c.loop-piece.invariant.grows c.in_ok-next.ensures.grows;
      known = g.met.F.Fold.lands c.put_piece.new.fold c.loop-piece.after
          (put_event c.piece-item.result) c.in-Some.next told;
      folds = folds_piece c.args.state c.args.output.now (g.F.Fold.next c.loop-piece.fold)
          (g.F.Fold.next c.put_piece.new.fold) c.in_ok-next.ensures.grows.next
          c.loop-piece.piece-index c.loop-piece.after c.piece-item.result (Some c.in-Some.next)
          c.loop-piece-test.true c.piece-item.is c.loop-piece.invariant.folds told;
    }

pub returns-clause-folds : goal.returns-clause-folds
returns-clause-folds g c = folds_pieces c.args.state c.args.output.now
    (g.F.Fold.next c.loop-piece.fold) c.loop-piece.piece-index (Some c.loop-piece.after)
    c.loop-piece-test.false c.loop-piece.invariant.folds

pub returns-in-None-clause-folds : goal.returns-in-None-clause-folds
returns-in-None-clause-folds g c =
    let told = subst (λ (r : Option ℕ). g.F.Fold.next c.put_piece.new.fold c.loop-piece.after
    (put_event c.piece-item.result) r) c.in-None.is c.in_ok-next.ensures.next in
    folds_out c.args.state c.args.output.now (g.F.Fold.next c.put_piece.new.fold)
    (c.loop-piece.piece-index + 1)
    (folds_piece c.args.state c.args.output.now (g.F.Fold.next c.loop-piece.fold)
    (g.F.Fold.next c.put_piece.new.fold) c.in_ok-next.ensures.grows.next
    c.loop-piece.piece-index c.loop-piece.after c.piece-item.result None
    c.loop-piece-test.true c.piece-item.is c.loop-piece.invariant.folds told)
