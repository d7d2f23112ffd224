-- Why the command `flatten` refuses a grammar, and which file it names. Public, through `Flatten`.
use Rattle.std.specs.Prelude.{◌≡◌, ℕ, List}
use Rattle.ux_alphabet.specs.Letters.{Letters}
use Rattle.ux_flatten.specs.Flattening.{IsFlattened, RefusesFlat, told}
use Rattle.ux_flatten.specs.declared.error.FlattenError.{FlattenError}
use Rattle.ux_flatten.specs.declared.error.FlattenError.TheVariants.{TooBig, NegativeCut, NoMemory}
use Rattle.ux_grammars.specs.Naming.{graph_file}
use Rattle.ux_grammars.specs.Reading.{HasStatesOf}
use Rattle.ux_grammars.specs.Sources.{Source}
use Rattle.ux_net.specs.declared.net_graph.NetGraph.{NetGraph}
use Rattle.ux_net.specs.declared.state_graph.StateGraph.{StateGraph}
use Rattle.ux_plan.specs.Plans.{Tells}
use Rattle.ux_reasons.specs.declared.reason.Reason.{Reason}
use Rattle.ux_reasons.specs.declared.reason.Reason.TheVariants.{Flatten}

-- the file that a refusal names: that of the main graph, or of the graph with the cut
abbrev pub NamesGraph : (word : List ℕ) → FlattenError → (file : List ℕ) → Type 0
NamesGraph word TooBig file = file ≡ word
NamesGraph word (NegativeCut name node) file = file ≡ graph_file word name
NamesGraph word NoMemory file = ⊥

-- graphs of states are refused: the file of the graph at fault is named
abbrev pub RefusesNet : (word : List ℕ) → List StateGraph → (depth : ℕ) → (file : List ℕ) → Reason →
    Type 0
RefusesNet word graphs depth file reason =
    Tells Flatten (λ error. RefusesFlat graphs depth error × NamesGraph word error file) reason

-- the states of the grammar, those that its boxes are compiled to or those that a file told
pub record HasStates (letters : Letters) (source : Source) (graphs : List StateGraph) : Type 0 where
  pub net : List NetGraph
  pub states : HasStatesOf letters source net
  pub told : graphs ≡ told net

-- the grammar has a flat net to the depth
pub record CanFlatten (letters : Letters) (source : Source) (depth : ℕ) : Type 0 where
  pub graphs : List StateGraph
  pub states : HasStates letters source graphs
  pub flattened : IsFlattened graphs depth

-- the grammar has none: the file of the graph at fault is named
pub record RefusesGrammar (word : List ℕ) (letters : Letters) (source : Source) (depth : ℕ)
    (file : List ℕ) (reason : Reason) : Type 0 where
  pub graphs : List StateGraph
  pub states : HasStates letters source graphs
  pub refuses : RefusesNet word graphs depth file reason
