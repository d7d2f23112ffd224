-- What a net has: a state in each graph, and no more of them than can be numbered.
use Rattle.std.proofs.Common.{arith, ◌≡◌, ℕ, zero, suc, ◌-◌, ◌<◌, ◌≤◌, List, [], length, get_or, refl, ap, ◌∙◌}
use Rattle.std.specs.Prelude.{Some, slice_get}
use Rattle.std.proofs.lemmas.Option.{slice_get_read, slice_get_past}
use Rattle.ux_net.specs.declared.net_graph.NetGraph.{NetGraph}
use Rattle.ux_net.specs.Closings.{closings_at}
use Rattle.ux_net.specs.Nets.{graph_at}
use Rattle.ux_net.specs.Sound.{IsSound}

-- the graph that stands at a place is the one of the number after it
pub graph_there : (graphs : List NetGraph) (g : ℕ) (graph : NetGraph) → 1 ≤ g → g ≤ length graphs →
    graph ≡ get_or graphs (g - 1) graph → graph_at graphs g ≡ Some graph
graph_there graphs zero graph from to at = absurd (omega (arith, from))
graph_there graphs (suc n) graph from to at =
    let same : suc n - 1 ≡ n = omega arith in
    slice_get_read graphs (length graphs) n graph refl (omega (arith, to))
    (at ∙ ap (λ m. get_or graphs m graph) same)

-- each graph has a state, and its states can be numbered
pub states_counted : (graphs : List NetGraph) → IsSound graphs → (g : ℕ) (graph : NetGraph) →
    1 ≤ g → g ≤ length graphs → graph ≡ get_or graphs (g - 1) graph →
    (1 ≤ length graph.states) × (length graph.states < 4294967296)
states_counted graphs sound g graph from to at =
    let there = graph_there graphs g graph from to at in
    let some = sound.inside.start g graph there in
    (omega (arith, some), sound.numbered g graph there)

-- a graph of a number, counted from 1, is the one there
pub graph_behind : (graphs : List NetGraph) (g before : ℕ) → 1 ≤ g → before ≡ g - 1 →
    graph_at graphs g ≡ slice_get graphs before
graph_behind graphs zero before from at = absurd (omega (arith, from))
graph_behind graphs (suc n) before from at =
    let same : n ≡ before = omega (arith, at) in ap (slice_get graphs) same

-- what it tells of contexts, and that it tells nothing where it isn't there
pub closings_there : (graphs : List NetGraph) (g before : ℕ) (found : NetGraph) → 1 ≤ g →
    before ≡ g - 1 → before < length graphs → found ≡ get_or graphs before found →
    closings_at (graph_at graphs g) ≡ found.closings
closings_there graphs g before found from at lt is =
    ap closings_at (graph_behind graphs g before from at
    ∙ slice_get_read graphs (length graphs) before found refl lt is)

-- a graph that is not there tells no closings
pub closings_past : (graphs : List NetGraph) (g before : ℕ) → 1 ≤ g → before ≡ g - 1 →
    length graphs ≤ before → closings_at (graph_at graphs g) ≡ []
closings_past graphs g before from at past =
    ap closings_at (graph_behind graphs g before from at ∙ slice_get_past graphs before past)
