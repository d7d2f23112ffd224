use Rattle.std.proofs.Common.{arith, subst}
use Rattle.std.proofs.lemmas.Grind.{common_steps}
use Rattle.std.proofs.lemmas.List.Elements.{All-more}
use Rattle.ux_image.specs.Layout.{PairFits}
use Rattle.ux_image.proofs.fields.put_pairs.Goals as goal

pub loop-pair-preserved : goal.loop-pair-preserved
loop-pair-preserved c = record {
  bytes = grind (arith, common_steps);
  few = c.loop-pair.invariant.few;
  fits = All-more PairFits c.args.pairs.now c.loop-pair.pair-index c.pair-item.result (omega arith)
      c.loop-pair.invariant.fits (subst PairFits c.pair-item.is c.in_ok-put_pair.ensures.fits);
}
