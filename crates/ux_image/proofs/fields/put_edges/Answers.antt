use Rattle.std.proofs.Common.{arith}
use Rattle.std.proofs.lemmas.Grind.{common_steps}
use Rattle.std.proofs.lemmas.List.Elements.{All-more}
use Rattle.ux_image.specs.Layout.{EdgeFits}
use Rattle.ux_image.proofs.fields.put_edges.Goals as goal

pub loop-edge-preserved : goal.loop-edge-preserved
loop-edge-preserved c = record {
  bytes = grind (arith, common_steps);
  few = c.loop-edge.invariant.few;
  fits = All-more EdgeFits c.args.edges.now c.loop-edge.edge-index _ (omega arith)
      c.loop-edge.invariant.fits c.in_ok-put_edge.ensures.fits;
}
