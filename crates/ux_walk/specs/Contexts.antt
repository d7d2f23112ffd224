-- Which contexts apply on a walk, and which called graphs it enters, and that this is what is meant.
-- Public: the crate's public contracts speak of it.
use Rattle.std.specs.Prelude.{◌≡◌, ◌↔◌, ◌≤◌, ℕ, List, [], ◌∷◌, Contains, length}
use Rattle.ux_net.specs.declared.label.Label.{Label}
use Rattle.ux_net.specs.declared.state.Edge.{Edge}
use Rattle.ux_net.specs.declared.net_graph.NetGraph.{NetGraph}
use Rattle.ux_net.specs.Words.{Sign, opens, mark_of}
use Rattle.ux_net.specs.Nets.{net_grammar}
use Rattle.ux_net.specs.Levels.{HasLevels}
use Rattle.ux_meaning.specs.Inputs.{Input}
use Rattle.ux_meaning.specs.Contexts.{IsOpening, Applies}
use Rattle.ux_meaning.specs.Meaning.{DerBy}
use Rattle.ux_outputs.specs.declared.event.Event.{Event}
use Rattle.ux_walk.specs.Settings.{Setting, applied_text}

-- Which contexts apply: one of graph g, which an edge of this label opens into a state, at a
-- position, and the state at which a walk goes on. And which calls do: a graph is entered from a
-- position.
pub record Applying : Type 1 where
  pub contexts : (g : ℕ) → Label → (opening at c : ℕ) → Type 0
  pub enters : (h at : ℕ) → Type 0

-- no context applies, and each call does
abbrev pub none_apply : Applying
none_apply = record {
  contexts = λ g label opening at c. ⊥;
  enters = λ h at. Unit {0};
}

-- what may be asked: of an edge of graph g, at a position
abbrev pub Asking : Type 1
Asking = (g : ℕ) → Edge → (at : ℕ) → Type 0

-- everything
abbrev pub all_asked : Asking
all_asked g edge at = Unit {0}

-- the label opens a context
abbrev pub Opens : Label → Type 0
Opens label = (sign : Sign) × (mark_of (label ∷ []) ≡ opens sign)

-- each of the edges that opens a context may be asked of at the position
abbrev pub MayAsk : Asking → (g : ℕ) → List Edge → (at : ℕ) → Type 0
MayAsk asks g edges at = (edge : Edge) → Contains edges edge → Opens edge.label → asks g edge at

-- the contexts that apply are those of the meaning, of which some number of levels tells, and each
-- graph is entered from where it derives something
pub record ApplyAsMeant (input : Input) (net : List NetGraph) (applies : Applying) : Type 0 where
  pub level : (g first : ℕ) → ℕ
  pub levels : ℕ
  pub nested : HasLevels (net_grammar net) level levels
  pub exact : (g : ℕ) (label : Label) (opening at c : ℕ) → Opens label →
      applies.contexts g label opening at c
      ↔ Applies input (net_grammar net) levels g label opening at c
  pub entered : (h at end : ℕ) (events : List Event) →
      DerBy input (net_grammar net) levels h at end events → applies.enters h at

-- a walk over a text may ask of each edge that opens a context, and is told what is meant
pub record ContextsTold (setting : Setting) (asks : Asking) (applies : Applying) : Type 0 where
  pub asked : (g : ℕ) (edge : Edge) (at : ℕ) → IsOpening setting.net g edge →
      at ≤ length setting.tokens → asks g edge at
  pub meant : ApplyAsMeant (applied_text setting.alphabet setting.tokens setting.tables)
      setting.net applies
