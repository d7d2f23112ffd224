-- Graphs of states that have a meaning aren't refused.
use Rattle.std.proofs.Common.{◌≢◌, List, refl}
use Rattle.ux_boxes.specs.declared.error.NetError.{NetError}
use Rattle.ux_boxes.specs.declared.error.NetError.TheVariants.{MissingGraph, BadMask, ContextClose, NegativeRecursion, EmptyLoop, LeftRecursion, NoMemory}
use Rattle.ux_net.specs.StateGraphs.{state_grammar}
use Rattle.ux_net.specs.declared.state_graph.StateGraph.{StateGraph}
use Rattle.ux_admission.specs.SoundGrammar.{IsSoundGrammar}
use Rattle.ux_state_places.specs.RefusingStates.{RefusesStates}

pub sound_not_refused : (graphs : List StateGraph) (error : NetError) →
    IsSoundGrammar (state_grammar graphs) → error ≢ NoMemory → RefusesStates graphs error → ⊥
sound_not_refused graphs (MissingGraph name) sound some r = r
sound_not_refused graphs (BadMask name node place) sound some r = r
sound_not_refused graphs (ContextClose name node) sound some r =
    sound.contexts.closed r.0 node r.2.here
sound_not_refused graphs (NegativeRecursion name) sound some r =
    sound.contexts.no_recursion r.1.0 r.1.2.here
sound_not_refused graphs (EmptyLoop name node) sound some r =
    sound.admissible.no_empty_loop r.1.0 node r.1.2.here
sound_not_refused graphs (LeftRecursion name node) sound some r =
    sound.admissible.no_left_recursion r.2.0 node r.2.2.here
sound_not_refused graphs NoMemory sound some r = some refl
