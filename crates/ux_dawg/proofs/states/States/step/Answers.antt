use Rattle.ux_dawg.proofs.FlatLemmas.{edges_ascend, step_by_edges}
use Rattle.ux_dawg.proofs.states.States.step.Goals as goal

pub target_of-requires : goal.target_of-requires
target_of-requires c =
    edges_ascend c.args.self.now c.args.number c.requires c.edges.result.now c.edges.ensures

pub returns : goal.returns
returns c =
    step_by_edges c.args.self.now c.args.number c.args.letter c.edges.result.now c.edges.ensures
    c.target_of.result c.target_of.ensures
