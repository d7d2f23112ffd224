use Rattle.std.proofs.Common.{◌∙◌, ℕ, List, ◌++◌, ap, filter, sym}
use Rattle.std.specs.Prelude.{nat_lt}
use Rattle.std.specs.List.{flat_map}
use Rattle.ux_net.specs.declared.state.Edge.{Edge}
use Rattle.ux_net.specs.Nets.{states_of}
use Rattle.ux_inflect.specs.Cyclic.{called_on}
use Rattle.ux_inflect.proofs.ListLemmas.{calls_next}
use Rattle.ux_inflect.proofs.rows.row_of_graph.Goals as goal

pub loop-state-preserved : goal.loop-state-preserved
loop-state-preserved c =
    let edges = c.edges.result.now in
    let below = λ (called : ℕ). nat_lt called c.args.bound in
    c.in_ok-put_calls.ensures
    ∙ (ap (λ (l : List ℕ). l
    ++ filter below (flat_map (λ (edge : Edge). called_on edge.label) edges)) c.loop-state.invariant
    ∙ sym (calls_next below (states_of c.args.net.now c.args.graph) c.loop-state.state edges
    c.edges.ensures))
