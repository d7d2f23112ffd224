-- Graphs of states that have a meaning aren't refused, nor is a text that says graphs.
use Rattle.std.proofs.Common.{◌≡◌, ◌≢◌, ◌⊎◌, inl, inr, ℕ, List, refl, Result, Ok, Err}
use Rattle.std.specs.Prelude.{IfErr}
use Rattle.ux_fst2.specs.Reading.{Refuses, SaysGraphs}
use Rattle.ux_fst2.specs.declared.error.Fst2Error.{Fst2Error}
use Rattle.ux_fst2.specs.declared.error.Fst2Error.TheVariants as fst2
use Rattle.ux_fst2.proofs.TextLaws.{said_not_refused}
use Rattle.ux_boxes.specs.declared.error.NetError.{NetError}
use Rattle.ux_boxes.specs.declared.error.NetError.TheVariants.{MissingGraph, BadMask, ContextClose, NegativeRecursion, EmptyLoop, LeftRecursion, NoMemory}
use Rattle.ux_net.specs.StateGraphs.{state_grammar}
use Rattle.ux_net.specs.declared.state_graph.StateGraph.{StateGraph}
use Rattle.ux_admission.specs.SoundGrammar.{IsSoundGrammar}
use Rattle.ux_state_places.specs.RefusingStates.{RefusesStates}

module _ (graphs : List StateGraph) where
  -- graphs that have a meaning aren't refused
  pub sound_not_refused : (error : NetError) → IsSoundGrammar (state_grammar graphs) →
      error ≢ NoMemory → RefusesStates graphs error → ⊥
  sound_not_refused (MissingGraph name) sound some r = r
  sound_not_refused (BadMask name node place) sound some r = r
  sound_not_refused (ContextClose name node) sound some r =
      sound.contexts.closed r.0 node r.2.here
  sound_not_refused (NegativeRecursion name) sound some r =
      sound.contexts.no_recursion r.1.0 r.1.2.here
  sound_not_refused (EmptyLoop name node) sound some r =
      sound.admissible.no_empty_loop r.1.0 node r.1.2.here
  sound_not_refused (LeftRecursion name node) sound some r =
      sound.admissible.no_left_recursion r.2.0 node r.2.2.here
  sound_not_refused NoMemory sound some r = some refl

  -- where they have a meaning, nothing but want of memory refuses them
  memory_alone : (error : NetError) → IsSoundGrammar (state_grammar graphs) →
      RefusesStates graphs error → error ≡ NoMemory
  memory_alone (MissingGraph name) sound r =
      absurd (sound_not_refused (MissingGraph name) sound (λ e. cc) r)
  memory_alone (BadMask name node place) sound r =
      absurd (sound_not_refused (BadMask name node place) sound (λ e. cc) r)
  memory_alone (ContextClose name node) sound r =
      absurd (sound_not_refused (ContextClose name node) sound (λ e. cc) r)
  memory_alone (NegativeRecursion name) sound r =
      absurd (sound_not_refused (NegativeRecursion name) sound (λ e. cc) r)
  memory_alone (EmptyLoop name node) sound r =
      absurd (sound_not_refused (EmptyLoop name node) sound (λ e. cc) r)
  memory_alone (LeftRecursion name node) sound r =
      absurd (sound_not_refused (LeftRecursion name node) sound (λ e. cc) r)
  memory_alone NoMemory sound r = refl

  pub only_memory : {A : Type 0} (r : Result A NetError) → IsSoundGrammar (state_grammar graphs) →
      IfErr r (RefusesStates graphs) → IfErr r (λ error. error ≡ NoMemory)
  only_memory (Ok net) sound refuses = tt
  only_memory (Err error) sound refuses = memory_alone error sound refuses

-- a text that says graphs isn't refused but for want of memory
pub said_memory : (text : List ℕ) (graphs : List StateGraph) (error : Fst2Error) →
    SaysGraphs text graphs → (error ≡ fst2.NoMemory) ⊎ Refuses text error → error ≡ fst2.NoMemory
said_memory text graphs error says (inl same) = same
said_memory text graphs error says (inr refuses) =
    absurd (said_not_refused text graphs error says refuses)
