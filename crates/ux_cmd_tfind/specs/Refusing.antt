-- Why the command `tfind` refuses a grammar, and which file it names. Public, through `Tfind`.
use Rattle.std.specs.Prelude.{◌≡◌, ℕ, List}
use Rattle.ux_alphabet.specs.Letters.{Letters}
use Rattle.ux_grammars.specs.Naming.{graph_file}
use Rattle.ux_grammars.specs.Reading.{HasStatesOf}
use Rattle.ux_grammars.specs.Sources.{Source}
use Rattle.ux_net.specs.declared.net_graph.NetGraph.{NetGraph}
use Rattle.ux_plan.specs.Plans.{Tells}
use Rattle.ux_reading_match.specs.Usable.{IsUsable, Refuses}
use Rattle.ux_reading_match.specs.declared.error.TfstError.{TfstError}
use Rattle.ux_reading_match.specs.declared.error.TfstError.TheVariants.{BadItem, NoMemory}
use Rattle.ux_reasons.specs.declared.reason.Reason.{Reason}
use Rattle.ux_reasons.specs.declared.reason.Reason.TheVariants.{Tfst}

-- the file that a refusal names: that of the graph with the bad state
abbrev pub NamesGraph : (word : List ℕ) → TfstError → (file : List ℕ) → Type 0
NamesGraph word (BadItem name node) file = file ≡ graph_file word name
NamesGraph word NoMemory file = ⊥

-- the net is refused: the file of the graph at fault is named
abbrev pub RefusesNet : (word : List ℕ) → List NetGraph → (file : List ℕ) → Reason → Type 0
RefusesNet word net file reason =
    Tells Tfst (λ error. Refuses net error × NamesGraph word error file) reason

-- the grammar can be searched in automata
pub record CanSearch (letters : Letters) (source : Source) : Type 0 where
  pub net : List NetGraph
  pub states : HasStatesOf letters source net
  pub usable : IsUsable net

-- it can't: the file of the graph at fault is named
pub record RefusesGrammar (word : List ℕ) (letters : Letters) (source : Source) (file : List ℕ)
    (reason : Reason) : Type 0 where
  pub net : List NetGraph
  pub states : HasStatesOf letters source net
  pub refuses : RefusesNet word net file reason
