use Rattle.std.proofs.Common.{◌∙◌, List, ap, sym, subst}
use Rattle.ux_net.specs.declared.net_graph.NetGraph.{NetGraph}
use Rattle.ux_net.specs.Closings.{closings_at, Ascend}
use Rattle.ux_net.specs.Nets.{graph_at}
use Rattle.ux_net.proofs.NetLemmas.{closings_there, closings_past}
use Rattle.ux_net.proofs.net.Net.closings.Goals as goal

pub returns-in-Some-get-clause-ascend : goal.returns-in-Some-get-clause-ascend
returns-in-Some-get-clause-ascend c =
    let first = c.in-Some.ensures in
    let there = c.in-Some-get.ensures.lookup in
    let told = closings_there c.deref.result.now c.args.graph c.in-Some.before
    c.in-Some-get.found.now first.0 first.1 there.3.0 there.1 in
    subst Ascend (told ∙ sym c.as_slice.ensures)
    (subst (λ (net : List NetGraph). Ascend (closings_at (graph_at net c.args.graph)))
    (sym c.deref.ensures.value) (c.self.invariant.0.closings c.args.graph))

pub returns-in-None-clause-told : goal.returns-in-None-clause-told
returns-in-None-clause-told c =
    let first = c.in-Some.ensures in
    sym (ap (λ (net : List NetGraph). closings_at (graph_at net c.args.graph))
    (sym c.self.view_is ∙ sym c.deref.ensures.value)
    ∙ closings_past c.deref.result.now c.args.graph c.in-Some.before first.0 first.1
    c.in-None.ensures.lookup.3)
