use Rattle.std.proofs.Common.{ℕ, List, IfErr, IfOk, map, sym, subst}
use Rattle.ux_fst2.specs.Reading.{SaysGraphs}
use Rattle.ux_fst2.proofs.TextLaws.{graphs_once}
use Rattle.ux_net.specs.Whole.{HaveSameStates, told_graph}
use Rattle.ux_net.specs.declared.state_graph.StateGraph.{StateGraph}
use Rattle.ux_state_places.specs.RefusingStates.{RefusesStates}
use Rattle.ux_states.proofs.NotRefused.{only_memory}
use Rattle.ux_states.proofs.printed.read_printed.Goals as goal

pub returns-clause-same : goal.returns-clause-same
returns-clause-same c =
    let told : List StateGraph = map told_graph c.args.net.now in
    let says : SaysGraphs c.as_str.result.now told =
    subst (λ (t : List ℕ). SaysGraphs t told) (sym c.as_str.ensures.value)
    (c.in_ok-text.ensures.back c.requires) in
    let same = graphs_once c.as_str.result.now c.in_ok-graphs.graphs.items told
    c.in_ok-graphs.ensures.ok says in
    subst (λ (gs : List StateGraph). IfOk c.of_states.result (λ again. HaveSameStates again gs)) same
    c.of_states.ensures.states

pub returns-clause-err : goal.returns-clause-err
returns-clause-err c =
    let told : List StateGraph = map told_graph c.args.net.now in
    let says : SaysGraphs c.as_str.result.now told =
    subst (λ (t : List ℕ). SaysGraphs t told) (sym c.as_str.ensures.value)
    (c.in_ok-text.ensures.back c.requires) in
    let same = graphs_once c.as_str.result.now c.in_ok-graphs.graphs.items told
    c.in_ok-graphs.ensures.ok says in
    subst (λ (gs : List StateGraph). IfErr c.of_states.result (RefusesStates gs)) same
    c.of_states.ensures.err

pub returns-clause-sound : goal.returns-clause-sound
returns-clause-sound c =
    λ sound. only_memory (map told_graph c.args.net.now) c.of_states.result sound
    (returns-clause-err c)
