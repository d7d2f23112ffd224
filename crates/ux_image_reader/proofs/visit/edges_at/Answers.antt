use Rattle.std.proofs.Common.{◌∙◌, sym}
use Rattle.ux_image_reader.proofs.VisitLemmas.{edges_at-bare}
use Rattle.ux_image_reader.proofs.visit.edges_at.Goals as goal

pub returns : goal.returns
returns c = c.edges.ensures ∙ sym (edges_at-bare c.args.states.now c.args.number)
