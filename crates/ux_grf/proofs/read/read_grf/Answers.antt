use Rattle.std.proofs.Common.{◌*◌, ◌≤◌, length}
use Rattle.std.proofs.lemmas.Result.{IfOk-weaker}
use Rattle.ux_grf.specs.declared.graph.GraphKind.TheVariants.{Plain}
use Rattle.ux_grf.specs.File.{IsGraphOf}
use Rattle.ux_grf.specs.Size.{size_of}
use Rattle.ux_grf.specs.WellFormed.{IsWellFormed}
use Rattle.ux_grf.proofs.WellFormedLemmas.{graph_well_formed}
use Rattle.ux_grf.proofs.SizeLemmas.{graph_small}
use Rattle.ux_grf.proofs.read.read_grf.Goals as goal

pub returns-clause-well_formed : goal.returns-clause-well_formed
returns-clause-well_formed c =
    IfOk-weaker c.read_graph.result (IsGraphOf Plain c.args.text.now) IsWellFormed
    (graph_well_formed c.args.text.now)
    c.read_graph.ensures.ok

pub returns-clause-size : goal.returns-clause-size
returns-clause-size c =
    IfOk-weaker c.read_graph.result (IsGraphOf Plain c.args.text.now)
    (λ graph. size_of graph ≤ 4 * length c.args.text.now) (graph_small c.args.text.now)
    c.read_graph.ensures.ok
