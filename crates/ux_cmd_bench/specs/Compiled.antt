-- The graphs that are made up, and their net. Inner: the crate's own functions alone speak of it.
use Rattle.std.specs.Prelude.{ℕ, List}
use Rattle.ux_alphabet.specs.Letters.{Letters}
use Rattle.ux_grf.specs.declared.graph.GraphKind.TheVariants.{Plain}
use Rattle.ux_grf.specs.File.{IsGraphOf}
use Rattle.ux_grf.specs.declared.graph.Graph.{Graph}
use Rattle.ux_boxes.specs.Boxes.{Drawn}
use Rattle.ux_compile.specs.Refusing.{IsCompilable}
use Rattle.ux_net.specs.declared.net_graph.NetGraph.{NetGraph}
use Rattle.ux_grammars.specs.Reading.{Compiles}
use Rattle.ux_grammars.specs.Sources.{of_boxes}
use Rattle.ux_cmd_bench.specs.Bench.{AreGraphs}

-- the text draws some graph
abbrev pub DrawsGraph : List ℕ → Type 0
DrawsGraph text = (graph : Graph) × IsGraphOf Plain text graph

-- the net says what the graphs say
pub record IsPhraseNet (letters : Letters) (net : List NetGraph) : Type 0 where
  pub graphs : List Drawn
  pub are : AreGraphs graphs
  pub compilable : IsCompilable letters graphs
  pub compiles : Compiles letters (of_boxes graphs) net
