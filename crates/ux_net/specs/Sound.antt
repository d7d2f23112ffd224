-- What holds of every net. Public: the crate's public contracts speak of it.
use Rattle.std.specs.Prelude.{◌≡◌, ℕ, ◌<◌, ◌≤◌, List, Some, length, map}
use Rattle.ux_net.specs.declared.net_graph.NetGraph.{NetGraph}
use Rattle.ux_net.specs.Closings.{AllAscend, TellsClosings}
use Rattle.ux_net.specs.Marked.{IsMarked}
use Rattle.ux_net.specs.Nets.{graph_at, AreInside, states_of}
use Rattle.ux_net.specs.Measured.{IsMeasured}
use Rattle.ux_net.specs.StateGraphs.{AreInsideStates}
use Rattle.ux_net.specs.Whole.{AreAside, told_graph, unmet_at}

-- There are 1 to 65,535 graphs, states can be numbered, edges stay inside, every walk ends, states
-- have marks, where contexts are closed is told, and in order. States that are kept aside are told in
-- order, and their edges stay inside too.
pub record IsSound (graphs : List NetGraph) : Type 0 where
  pub some : 1 ≤ length graphs
  pub few : length graphs ≤ 65535
  pub numbered : (g : ℕ) (graph : NetGraph) → graph_at graphs g ≡ Some graph →
      length graph.states < 4294967296
  pub inside : AreInside graphs
  pub measured : IsMeasured graphs
  pub marked : IsMarked graphs
  pub closings : AllAscend graphs
  pub told : TellsClosings graphs
  pub aside : (g : ℕ) → AreAside (unmet_at (graph_at graphs g)) (states_of graphs g)
  pub whole : AreInsideStates (map told_graph graphs)
