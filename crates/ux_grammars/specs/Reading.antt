-- How far the reading of a grammar has come, and what is handed on. Public: the crate's public
-- contracts speak of it.
use Rattle.std.specs.Prelude.{◌≡◌, ◌≢◌, ⊤, ℕ, ◌<◌, ◌≤◌, List, All, AllPairs, length, map, Option, Some, slice_get, String, string_bytes}
use Rattle.std.specs.declared.alloc.Global.{Global}
use Rattle.ux_base.specs.Outside.{Files}
use Rattle.ux_plan.specs.Plans.{Comes, Plan}
use Rattle.ux_reasons.specs.declared.reason.Reason.{Reason}
use Rattle.ux_grf.specs.Size.{size_of}
use Rattle.ux_grf.specs.WellFormed.{IsWellFormed}
use Rattle.ux_grf.specs.declared.graph.Graph.{Graph}
use Rattle.ux_base.specs.Distinct.{StandOnce}
use Rattle.ux_boxes.specs.Boxes.{Drawn, names_of}
use Rattle.ux_compile.specs.Compiling.{IsConstructed}
use Rattle.ux_net.specs.Nets.{net_grammar}
use Rattle.ux_net.specs.StateGraphs.{AreInsideStates, state_grammar}
use Rattle.ux_net.specs.Whole.{HaveSameStates, told_graph}
use Rattle.ux_net.specs.declared.state_graph.StateGraph.{StateGraph}
use Rattle.ux_boxes.specs.Refusing.{AreWhole, drawn}
use Rattle.ux_net.specs.Words.{SayTheSame}
use Rattle.ux_boxes.specs.declared.error.NetError.{NetError}
use Rattle.ux_boxes.specs.declared.error.NetError.TheVariants.{MissingGraph, BadMask, ContextClose, NegativeRecursion, EmptyLoop, LeftRecursion, NoMemory}
use Rattle.ux_net.specs.declared.net_graph.NetGraph.{NetGraph}
use Rattle.ux_grammars.specs.Graphs.{MOST_GRAPHS}
use Rattle.ux_admission.specs.SoundGrammar.{IsSoundGrammar}
use Rattle.ux_alphabet.specs.Letters.{Letters}
use Rattle.ux_grammars.specs.Naming.{names_after}
use Rattle.ux_grammars.specs.Sources.{Source, grammar_of, of_boxes, of_states}

-- what every graph that is read has: it is well formed, and not too large to be numbered
pub record IsGivenGraph (graph : Graph) : Type 0 where
  pub well_formed : IsWellFormed graph
  pub small : size_of graph < 4294967296

abbrev pub IsGiven : String Global × Graph → Type 0
IsGiven graph = IsGivenGraph graph.1

-- the graphs have the first of the names, in their order
abbrev pub AreNamed : List (List ℕ) → List Drawn → Type 0
AreNamed names graphs = (k : ℕ) (graph : Drawn) → slice_get graphs k ≡ Some graph →
    slice_get names k ≡ Some graph.name

-- these graphs were read, and the names are the main graph's and those that they call
pub record IsReading (word : List ℕ) (names : List (List ℕ))
    (graphs : List (String Global × Graph)) : Type 0 where
  pub table : names ≡ names_after word (drawn graphs)
  pub named : AreNamed names (drawn graphs)
  pub given : All IsGiven graphs

-- the graphs of a whole grammar: each that is called is there, once, and there are not too many
pub record AreWholeGraphs (graphs : List (String Global × Graph)) : Type 0 where
  pub some : 0 < length graphs
  pub few : length graphs ≤ MOST_GRAPHS
  pub given : All IsGiven graphs
  pub distinct : AllPairs (λ a b. string_bytes a.0 ≢ string_bytes b.0) graphs
  pub whole : AreWhole (drawn graphs)

-- the refusal isn't that a graph is missing
abbrev pub IsPlaced : NetError → Type 0
IsPlaced (BadMask graph node place) = ⊤
IsPlaced (ContextClose graph node) = ⊤
IsPlaced (NegativeRecursion graph) = ⊤
IsPlaced (EmptyLoop graph node) = ⊤
IsPlaced (LeftRecursion graph node) = ⊤
IsPlaced (MissingGraph name) = ⊥
IsPlaced NoMemory = ⊤

-- the net has the states that are made of the boxes of graphs whose names differ
pub record AreStatesOfBoxes (letters : Letters) (graphs : List Drawn) (net : List NetGraph) :
    Type 0 where
  pub apart : StandOnce (names_of graphs)
  pub constructed : IsConstructed letters graphs net

-- the net has the states that are made of the boxes, or the very states that were told
abbrev pub HasStatesOf : Letters → Source → (net : List NetGraph) → Type 0
HasStatesOf letters (of_boxes graphs) net = AreStatesOfBoxes letters graphs net
HasStatesOf letters (of_states graphs) net = HaveSameStates net graphs

-- the net says the same as the grammar, and has its states
pub record Compiles (letters : Letters) (source : Source) (net : List NetGraph) : Type 0 where
  pub same : SayTheSame (grammar_of letters source) (net_grammar net)
  pub states : HasStatesOf letters source net

-- the net is that of the grammar to which the plan comes
pub record HasNet (plan : Plan Reason Source) (told : Option Files)
    (letters : Letters) (net : List NetGraph) : Type 0 where
  pub source : Source
  pub comes : Comes plan told source
  pub compiles : Compiles letters source net

-- the net is that of the drawn graphs to which the plan comes
pub record HasDrawnNet (plan : Plan Reason (List Drawn)) (told : Option Files) (letters : Letters)
    (net : List NetGraph) : Type 0 where
  pub graphs : List Drawn
  pub comes : Comes plan told graphs
  pub compiles : Compiles letters (of_boxes graphs) net

-- the net's edges stay inside, and the grammar of its states has a meaning
pub record IsSoundNet (net : List NetGraph) : Type 0 where
  pub inside : AreInsideStates (map told_graph net)
  pub sound : IsSoundGrammar (state_grammar (map told_graph net))
