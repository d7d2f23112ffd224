use Rattle.std.proofs.Common.{sym, ap, ◌∙◌}
use Rattle.ux_net.specs.declared.state_graph.StateGraph.{StateGraph}
use Rattle.ux_state_places.proofs.AdmittedLaws.{name_of_number}
use Rattle.ux_flatten.proofs.cuts.name_of.Goals as goal

pub returns : goal.returns
returns c =
    name_of_number c.args.graphs.now c.args.graph c.index-graphs-graph.result c.in_ok-clone.field-0
    c.requires.from c.requires.to c.index-graphs-graph.is
    (c.in_ok-clone.ensures.cases
    ∙ ap (λ (graph : StateGraph). graph.name) (sym c.index-graphs-graph.is))
