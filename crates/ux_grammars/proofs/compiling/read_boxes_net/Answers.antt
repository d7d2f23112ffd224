use Rattle.ux_plan.proofs.PlanSteps.{comes_gives, comes_then}
use Rattle.ux_grammars.specs.Sources.{of_boxes}
use Rattle.ux_grammars.proofs.compiling.read_boxes_net.Goals as goal

pub returns-clause-ok : goal.returns-clause-ok
returns-clause-ok g c =
    let net = c.in_ok-net.ensures in
    record {
      source = of_boxes net.ok.graphs;
      comes = comes_then _ _ _ _ _ net.ok.comes (comes_gives _ _ _);
      compiles = net.ok.compiles;
    }
