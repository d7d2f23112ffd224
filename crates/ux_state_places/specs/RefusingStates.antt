-- Why graphs of states are refused. Public: the crate's public contracts speak of it.
use Rattle.std.specs.Prelude.{ℕ, List, map}
use Rattle.ux_net.specs.declared.state_graph.StateGraph.{StateGraph}
use Rattle.ux_net.specs.StateGraphs.{state_grammar}
use Rattle.ux_boxes.specs.Refusing.{IsFirstAmong, is_name_at}
use Rattle.ux_boxes.specs.declared.error.NetError.{NetError}
use Rattle.ux_boxes.specs.declared.error.NetError.TheVariants.{MissingGraph, BadMask, ContextClose, NegativeRecursion, EmptyLoop, LeftRecursion, NoMemory}
use Rattle.ux_admission.specs.Admissible.{IsOnEmptyLoop, IsLeftRecursive}
use Rattle.ux_admission.specs.ContextClose.{IsBadContext, AreClosed}
use Rattle.ux_admission.specs.NegativeRecursion.{IsFirstNegative}
use Rattle.ux_admission.specs.SoundGrammar.{HasSoundContexts}

-- the names of the graphs, in order
abbrev pub names_told : List StateGraph → List (List ℕ)
names_told graphs = map (λ (graph : StateGraph). graph.name) graphs

-- Why the graphs are refused: the tests in their order, each with its first graph and its least
-- state.
abbrev pub RefusesStates : List StateGraph → NetError → Type 0
RefusesStates graphs (MissingGraph name) = ⊥
RefusesStates graphs (BadMask name node place) = ⊥
RefusesStates graphs (ContextClose name node) =
    IsFirstAmong (names_told graphs) (IsBadContext (state_grammar graphs)) name node
RefusesStates graphs (NegativeRecursion name) =
    AreClosed (state_grammar graphs)
    × ((g : ℕ) × is_name_at (names_told graphs) g name × IsFirstNegative (state_grammar graphs) g)
RefusesStates graphs (EmptyLoop name node) =
    HasSoundContexts (state_grammar graphs)
    × IsFirstAmong (names_told graphs) (IsOnEmptyLoop (state_grammar graphs)) name node
RefusesStates graphs (LeftRecursion name node) =
    HasSoundContexts (state_grammar graphs)
    × ((g m : ℕ) → IsOnEmptyLoop (state_grammar graphs) g m → ⊥)
    × IsFirstAmong (names_told graphs) (IsLeftRecursive (state_grammar graphs)) name node
RefusesStates graphs NoMemory = Unit {0}
