use Rattle.std.proofs.Common.{◌≤◌, List, Option, length, subst, sym}
use Rattle.ux_net.specs.declared.state_graph.StateGraph.{StateGraph}
use Rattle.ux_net.specs.StateGraphs.{state_grammar}
use Rattle.ux_admission.specs.declared.spot.Spot.{Spot}
use Rattle.ux_admission.specs.Spots.{FindsFirst}
use Rattle.ux_flatten.specs.Cuts.{IsNegativeCut}
use Rattle.ux_flatten.proofs.CutLemmas.{cut_inside}
use Rattle.ux_flatten.proofs.cuts.refuse_cuts.Goals as goal

pub name_of-requires-clause-from : goal.name_of-requires-clause-from
name_of-requires-clause-from c =
    let graphs = c.args.source.now.graphs.items in
    let first = subst (λ (o : Option Spot).
    FindsFirst (IsNegativeCut (state_grammar graphs) c.args.depth) o) c.in-Some.is
    c.in_ok-spot.ensures in
    (cut_inside graphs c.requires.inside c.args.depth c.in-Some.spot.graph c.in-Some.spot.node
    first.here).0

pub name_of-requires-clause-to : goal.name_of-requires-clause-to
name_of-requires-clause-to c =
    let graphs = c.args.source.now.graphs.items in
    let first = subst (λ (o : Option Spot).
    FindsFirst (IsNegativeCut (state_grammar graphs) c.args.depth) o) c.in-Some.is
    c.in_ok-spot.ensures in
    subst (λ (l : List StateGraph). c.in-Some.spot.graph ≤ length l) (sym c.deref.ensures.value)
    (cut_inside graphs c.requires.inside c.args.depth c.in-Some.spot.graph c.in-Some.spot.node
    first.here).1
