use Rattle.std.proofs.Common.{arith, subst}
use Rattle.std.proofs.lemmas.Grind.{common_steps}
use Rattle.std.proofs.lemmas.List.Elements.{All-more}
use Rattle.ux_image.specs.Layout.{CodeFits}
use Rattle.ux_image.proofs.fields.put_codes.Goals as goal

pub loop-code-preserved : goal.loop-code-preserved
loop-code-preserved c = record {
  bytes = grind (arith, common_steps);
  few = c.loop-code.invariant.few;
  fits = All-more CodeFits c.args.codes.now c.loop-code.code-index c.code-item.result (omega arith)
      c.loop-code.invariant.fits (subst CodeFits c.code-item.is c.in_ok-put_code.ensures.fits);
}
